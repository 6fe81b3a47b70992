use Rattle.std.proofs.Common.{◌≡◌, ◌+◌, ◌<◌, ℕ, zero, suc, Bool, true, false, Option, Some, None, cond, List, [], ◌∷◌, ◌++◌, length, get_or, take, drop, refl, sym, ap, ◌∙◌, subst, arith, append-nil, append_assoc, length-take-le}
use Rattle.std.specs.Prelude.{slice_get, position, nat_lt, IfSome, ◌||◌}
use Rattle.std.specs.List.{list_any, position_or_len}
use Rattle.std.specs.Cmp.Lexicographic.{bytes_decides}
use Rattle.std.proofs.lemmas.List.{drop_more, take_more, get_or-take}
use Rattle.std.proofs.lemmas.List.Sums.{position_or_len_is}
use Rattle.std.proofs.lemmas.List.Quantifiers.{position-Some}
use Rattle.std.proofs.lemmas.Option.{slice_get_within, get_or_from_slice_get, slice_get-get_or}
use Rattle.std.proofs.lemmas.Bool.Decides.{nat_tests}
use Rattle.cost_table.specs.Names.{NameLists, is_name, both, pair_of}
use Rattle.cost_table.specs.DistinctNames.{is_name_among, repeated_after, repeated_from, first_repeated}

module _ {A : Type 0} (same : A → A → Bool) where
  one_repeated : (before rest : List A) (x : A) (b : Bool) → list_any (λ y. same y x) before ≡ b → repeated_from same before (x ∷ rest) ≡ cond b (Some x) (repeated_from same (before ++ x ∷ []) rest)
  one_repeated before rest x b h = ap (λ t. cond t (Some x) (repeated_from same (before ++ x ∷ []) rest)) h

  -- the value at k stands before it too
  pub repeated_here : (xs : List A) (k : ℕ) (x : A) → k < length xs → x ≡ get_or xs k x → list_any (λ y. same y x) (take k xs) ≡ true → repeated_from same (take k xs) (drop k xs) ≡ Some x
  repeated_here xs k x l is h =
      let rest : drop k xs ≡ get_or xs k x ∷ drop (k + 1) xs = drop_more xs k x l in
      let here : drop k xs ≡ x ∷ drop (k + 1) xs = rest ∙ ap (λ y. y ∷ drop (k + 1) xs) (sym is) in
      rw here (one_repeated (take k xs) (drop (k + 1) xs) x true h)

  -- the value at k does not stand before it
  pub repeated_later : (xs : List A) (k : ℕ) (x : A) → k < length xs → x ≡ get_or xs k x → list_any (λ y. same y x) (take k xs) ≡ false → repeated_from same (take (k + 1) xs) (drop (k + 1) xs) ≡ repeated_from same (take k xs) (drop k xs)
  repeated_later xs k x l is h =
      let rest : drop k xs ≡ get_or xs k x ∷ drop (k + 1) xs = drop_more xs k x l in
      let here : drop k xs ≡ x ∷ drop (k + 1) xs = rest ∙ ap (λ y. y ∷ drop (k + 1) xs) (sym is) in
      let front : take (k + 1) xs ≡ take k xs ++ get_or xs k x ∷ [] = take_more xs k x l in
      let more : take (k + 1) xs ≡ take k xs ++ x ∷ [] = front ∙ ap (λ y. take k xs ++ y ∷ []) (sym is) in
      rw (here, more) (sym (one_repeated (take k xs) (drop (k + 1) xs) x false h))

unrepeated_tail : (b : Bool) (rest : Option (List ℕ)) (x : List ℕ) → cond b (Some x) rest ≡ None → (b ≡ false) × (rest ≡ None)
unrepeated_tail true rest x h = cc
unrepeated_tail false rest x h = (refl, h)

-- where no name is repeated, none stands before it
pub not_before : (before names : List (List ℕ)) (i : ℕ) → repeated_after before names ≡ None → i < length names → is_name_among (before ++ take i names) (get_or names i []) ≡ false
not_before before [] i h l = absurd (omega arith)
not_before before (x ∷ names) zero h l =
    let f = unrepeated_tail (is_name_among before x) (repeated_after (before ++ x ∷ []) names) x h in
    subst (λ (front : List (List ℕ)). is_name_among front x ≡ false) (sym (append-nil before)) f.0
not_before before (x ∷ names) (suc i) h l =
    let f = unrepeated_tail (is_name_among before x) (repeated_after (before ++ x ∷ []) names) x h in
    let rest = not_before (before ++ x ∷ []) names i f.1 (omega arith) in
    subst (λ (front : List (List ℕ)). is_name_among front (get_or names i []) ≡ false) (append_assoc before (x ∷ []) (take i names)) rest

either_false : (a b : Bool) → (a || b) ≡ false → (a ≡ false) × (b ≡ false)
either_false true b h = cc
either_false false b h = (refl, h)

any_false : (p : List ℕ → Bool) (names : List (List ℕ)) (k : ℕ) → list_any p names ≡ false → k < length names → p (get_or names k []) ≡ false
any_false p [] k h l = absurd (omega arith)
any_false p (x ∷ names) zero h l = (either_false (p x) (list_any p names) h).0
any_false p (x ∷ names) (suc k) h l = any_false p names k (either_false (p x) (list_any p names) h).1 (omega arith)

earlier_differs : (names : List (List ℕ)) (i k : ℕ) → first_repeated names ≡ None → i < length names → k < i → is_name (get_or names i []) (get_or names k []) ≡ false
earlier_differs names i k h l m =
    let short : length (take i names) ≡ i = length-take-le i names (omega arith) in
    let none = any_false (is_name (get_or names i [])) (take i names) k (not_before [] names i h l) (omega (arith, short)) in
    subst (λ (y : List ℕ). is_name (get_or names i []) y ≡ false) (get_or-take i names k [] m) none

found_cond : (n m i : ℕ) → n ≡ i → i < m → cond (nat_lt n m) (Some n) None ≡ Some i
found_cond n m i e l = grind (arith, nat_tests, e, l)

-- a name is found where it stands
pub held_at : (names : List (List ℕ)) (name : List ℕ) (i : ℕ) → first_repeated names ≡ None → slice_get names i ≡ Some name → position (is_name name) names ≡ Some i
held_at names name i h is =
    let l = slice_get_within names i name is in
    let there : get_or names i [] ≡ name = get_or_from_slice_get names i name [] is in
    let before = λ (k : ℕ) (m : k < i). subst (λ (x : List ℕ). is_name x (get_or names k []) ≡ false) there (earlier_differs names i k h l m) in
    let itself : is_name name (get_or names i []) ≡ true = (bytes_decides (get_or names i []) name).1 there in
    let first : position_or_len (is_name name) names ≡ i = position_or_len_is (is_name name) names i [] (omega arith) before (λ m. itself) in
    found_cond (position_or_len (is_name name) names) (length names) i first l

-- what is found is the name
pub found_at : (names : List (List ℕ)) (name : List ℕ) (i : ℕ) → position (is_name name) names ≡ Some i → slice_get names i ≡ Some name
found_at names name i h =
    let p = position-Some (is_name name) names i [] h in
    let same : get_or names i [] ≡ name = (bytes_decides (get_or names i []) name).0 p.1 in
    slice_get-get_or names i [] p.0 ∙ ap Some same

found_both : (names : NameLists) (number id : List ℕ) (o p : Option ℕ) → position (is_name number) names.wagons ≡ o → position (is_name id) names.orders ≡ p → IfSome (both o p) (λ q. (slice_get names.wagons q.0 ≡ Some number) × (slice_get names.orders q.1 ≡ Some id))
found_both names number id None p e f = tt
found_both names number id (Some i) None e f = tt
found_both names number id (Some i) (Some j) e f = (found_at names.wagons number i e, found_at names.orders id j f)

-- what is found is the pair
pub found_pair : (names : NameLists) (number id : List ℕ) (r : Option (ℕ × ℕ)) → r ≡ pair_of names number id → IfSome r (λ q. (slice_get names.wagons q.0 ≡ Some number) × (slice_get names.orders q.1 ≡ Some id))
found_pair names number id r is =
    subst (λ (o : Option (ℕ × ℕ)). IfSome o (λ q. (slice_get names.wagons q.0 ≡ Some number) × (slice_get names.orders q.1 ≡ Some id))) (sym is)
    (found_both names number id (position (is_name number) names.wagons) (position (is_name id) names.orders) refl refl)

-- a pair is found where it stands
pub held_pair : (fields names : NameLists) (number id : List ℕ) (r : Option (ℕ × ℕ)) → fields ≡ names → (first_repeated fields.wagons ≡ None) × (first_repeated fields.orders ≡ None) → r ≡ pair_of names number id → (i j : ℕ) → slice_get names.wagons i ≡ Some number → slice_get names.orders j ≡ Some id → r ≡ Some (i, j)
held_pair fields names number id r same once is i j e f =
    let kept = subst (λ (n : NameLists). (first_repeated n.wagons ≡ None) × (first_repeated n.orders ≡ None)) same once in
    let wagon : position (is_name number) names.wagons ≡ Some i = held_at names.wagons number i kept.0 e in
    let order : position (is_name id) names.orders ≡ Some j = held_at names.orders id j kept.1 f in
    let there : pair_of names number id ≡ Some (i, j) = rw (wagon, order) refl in
    is ∙ there
