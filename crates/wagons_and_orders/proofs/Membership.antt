-- What stands in a list with one more, and after a filter.
use Rattle.std.proofs.Common.{◌≡◌, ◌∙◌, ℕ, ◌<◌, Bool, true, false, not, ◌⊎◌, List, [], ◌∷◌, ◌++◌, length, refl, ap, sym, subst, inl, inr, arith, zero, suc}
use Rattle.std.specs.List.{filter, Contains, slice_index_or}
use Rattle.std.specs.Cmp.Lexicographic.{bytes_decides}
use Rattle.std.proofs.lemmas.List.Elements.{Contains-append_left, Contains-append_right, Contains-append_cases}
use Rattle.wagons_and_orders.specs.NumberChanges.{HasOneMore, HasAllBut}
use Rattle.wagons_and_orders.specs.Numbers.{is_below, is_number, with_number, without_number}

first : {X : Type 0} (x : X) (xs : List X) → Contains (x ∷ xs) x
first x xs = (0, omega arith, refl)

later : {X : Type 0} (x y : X) (xs : List X) → Contains xs y → Contains (x ∷ xs) y
later x y xs h = let below : h.0 < length xs = h.1 in (suc h.0, omega arith, h.2)

at_cases : {X : Type 0} (x y : X) (xs : List X) (k : ℕ) → k < length (x ∷ xs) → slice_index_or (x ∷ xs) k y ≡ y → (x ≡ y) ⊎ Contains xs y
at_cases x y xs zero below e = inl e
at_cases x y xs (suc k) below e = inr (k, omega arith, e)

cons_cases : {X : Type 0} (x y : X) (xs : List X) → Contains (x ∷ xs) y → (x ≡ y) ⊎ Contains xs y
cons_cases x y xs h = at_cases x y xs h.0 h.1 h.2

-- ---- a filter

kept_first : {X : Type 0} (p : X → Bool) (x y : X) (xs : List X) → p x ≡ true → (x ≡ y) ⊎ Contains (filter p xs) y → Contains (filter p (x ∷ xs)) y
kept_first p x y xs h (inl e) = rw h (subst (λ z. Contains (x ∷ filter p xs) z) e (first x (filter p xs)))
kept_first p x y xs h (inr there) = rw h (later x y (filter p xs) there)

kept : {X : Type 0} (p : X → Bool) (x y : X) (xs : List X) (b : Bool) → p x ≡ b → p y ≡ true → (x ≡ y) ⊎ Contains (filter p xs) y → Contains (filter p (x ∷ xs)) y
kept p x y xs true e h there = kept_first p x y xs e there
kept p x y xs false e h (inl same) = cc (sym e ∙ ap p same ∙ h)
kept p x y xs false e h (inr there) = rw e there

pub filtered : {X : Type 0} (p : X → Bool) (xs : List X) (y : X) → p y ≡ true → Contains xs y → Contains (filter p xs) y
filtered p [] y h there = absurd (let below : there.0 < 0 = there.1 in omega arith)
filtered p (x ∷ xs) y h there = elim (cons_cases x y xs there) [
  | inl same ↦ kept p x y xs (p x) refl h (inl same)
  | inr behind ↦ kept p x y xs (p x) refl h (inr (filtered p xs y h behind))
]

-- what a filter kept was there, and passes the test
passed_first : {X : Type 0} (p : X → Bool) (x y : X) (xs : List X) → p x ≡ true → (x ≡ y) ⊎ (Contains xs y × (p y ≡ true)) → Contains (x ∷ xs) y × (p y ≡ true)
passed_first p x y xs e (inl same) = (subst (λ z. Contains (x ∷ xs) z) same (first x xs), sym (ap p same) ∙ e)
passed_first p x y xs e (inr h) = (later x y xs h.0, h.1)

either : {A B C : Type 0} → (B → C) → A ⊎ B → A ⊎ C
either f (inl a) = inl a
either f (inr b) = inr (f b)

passed : {X : Type 0} (p : X → Bool) (x y : X) (xs : List X) (b : Bool) → p x ≡ b → (Contains (filter p xs) y → Contains xs y × (p y ≡ true)) → Contains (filter p (x ∷ xs)) y → Contains (x ∷ xs) y × (p y ≡ true)
passed p x y xs true e rest h = passed_first p x y xs e (either rest (cons_cases x y (filter p xs) (rw e at h)))
passed p x y xs false e rest h = let found = rest (rw e at h) in (later x y xs found.0, found.1)

pub filter_keeps : {X : Type 0} (p : X → Bool) (xs : List X) (y : X) → Contains (filter p xs) y → Contains xs y × (p y ≡ true)
filter_keeps p [] y h = absurd (let below : h.0 < 0 = h.1 in omega arith)
filter_keeps p (x ∷ xs) y h = passed p x y xs (p x) refl (filter_keeps p xs y) h

other_number : (number other : List ℕ) (b : Bool) → is_number number other ≡ b → ¬ (other ≡ number) → not b ≡ true
other_number number other true e h = absurd (h ((bytes_decides other number).0 e))
other_number number other false e h = refl

not_that_number : (number other : List ℕ) → not (is_number number other) ≡ true → ¬ (other ≡ number)
not_that_number number other h e = let same : is_number number other ≡ true = (bytes_decides other number).1 e in cc (rw same at h)

pub has_all_but : (number : List ℕ) (numbers : List (List ℕ)) → HasAllBut number numbers (without_number number numbers)
unfolding without_number
has_all_but number numbers other =
    let test : List ℕ → Bool = λ n. not (is_number number n) in (
      (λ h. let found = filter_keeps test numbers other h in (found.0, not_that_number number other found.1)),
      (λ h. filtered test numbers other (other_number number other (is_number number other) refl h.1) h.0),
    )

-- ---- one more

-- an element passes a test, or its opposite
passes : (b : Bool) → (b ≡ true) ⊎ (not b ≡ true)
passes true = inl refl
passes false = inr refl

parted : {X : Type 0} (p : X → Bool) (x y : X) (xs : List X) → (y ≡ x) ⊎ Contains xs y → Contains (filter p xs ++ x ∷ filter (λ z. not (p z)) xs) y
parted p x y xs (inl e) = Contains-append_right (filter p xs) (x ∷ _) y (subst (λ z. Contains (x ∷ filter (λ w. not (p w)) xs) z) (sym e) (first x _))
parted p x y xs (inr h) = elim (passes (p y)) [
  | inl before ↦ Contains-append_left (filter p xs) (x ∷ _) y (filtered p xs y before h)
  | inr behind ↦ Contains-append_right (filter p xs) (x ∷ _) y (later x y _ (filtered (λ z. not (p z)) xs y behind h))
]

behind_cases : {X : Type 0} (q : X → Bool) (x y : X) (xs : List X) → (x ≡ y) ⊎ Contains (filter q xs) y → (y ≡ x) ⊎ Contains xs y
behind_cases q x y xs (inl e) = inl (sym e)
behind_cases q x y xs (inr h) = let found = filter_keeps q xs y h in inr found.0

parted_cases : {X : Type 0} (p : X → Bool) (x y : X) (xs : List X) → Contains (filter p xs ++ x ∷ filter (λ z. not (p z)) xs) y → (y ≡ x) ⊎ Contains xs y
parted_cases p x y xs h = elim (Contains-append_cases (filter p xs) (x ∷ filter (λ z. not (p z)) xs) y h) [
  | inl before ↦ (let found = filter_keeps p xs y before in inr found.0)
  | inr behind ↦ behind_cases (λ z. not (p z)) x y xs (cons_cases x y _ behind)
]

pub has_one_more : (number : List ℕ) (numbers : List (List ℕ)) → HasOneMore number numbers (with_number number numbers)
unfolding with_number
has_one_more number numbers other = (parted_cases (is_below number) number other numbers, parted (is_below number) number other numbers)
