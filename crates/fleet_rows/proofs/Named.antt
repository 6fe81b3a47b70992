-- Lists of things with names: what is found by a name, and a change at a name.
use Rattle.std.proofs.Common.{◌≡◌, ◌∙◌, ℕ, zero, suc, ◌+◌, ◌<◌, Bool, true, false, cond, nat_eq, nat_lt, if◌then◌else◌, List, [], ◌∷◌, ◌++◌, length, map, get_or, Option, Some, None, is_some, IfSome, Bor, option_map, refl, ap, sym, subst, inl, inr, arith, position}
use Rattle.std.specs.Cmp.{IsEquivalence, nat_eq_equiv}
use Rattle.std.specs.Cmp.Lexicographic.{pointwise, bytes_decides, lists_equiv}
use Rattle.std.specs.List.{AllByRecursion, IsDistinct, find, list_any, position_from, position_or_len, slice_get, slice_set}
use Rattle.std.proofs.lemmas.Bool.{cases_Bool, cases_lt, le-ltb, lt-ltb}
use Rattle.std.proofs.lemmas.Iterator.Adapters.{position_from-zero}
use Rattle.std.proofs.lemmas.List.{length-set}
use Rattle.std.proofs.lemmas.List.Folds.{find_at, position_or_len-set}
use Rattle.std.proofs.lemmas.Map.Keys.{IsDistinct-head, IsDistinct-tail}
use Rattle.std.proofs.lemmas.Option.{slice_get-get_or, slice_get_past}

-- whether two texts are one name
abbrev pub is_same : List ℕ → List ℕ → Bool
is_same name other = pointwise nat_eq name other

pub same_name : IsEquivalence is_same
same_name = lists_equiv nat_eq_equiv

flip : (a b : List ℕ) → is_same a b ≡ false → is_same b a ≡ false
flip a b h = sym (same_name.symm a b) ∙ h

-- where all names have a property, the name at an index has it
at_index : {X : Type 0} (P : List ℕ → Type 0) (name : X → List ℕ) (xs : List X) (k : ℕ) (x : X) → AllByRecursion P (map name xs) → slice_get xs k ≡ Some x → P (name x)
at_index P name [] k x all e = cc e
at_index P name (y ∷ ys) zero x all e = let same : y ≡ x = cc e in subst (λ z. P (name z)) same all.0
at_index P name (y ∷ ys) (suc k) x all e = at_index P name ys k x all.1 e

-- what stands in a list is found by its name
pub found_by_name : {X : Type 0} (name : X → List ℕ) (xs : List X) (k : ℕ) (x : X) → IsDistinct is_same (map name xs) → slice_get xs k ≡ Some x → find (λ y. is_same (name x) (name y)) xs ≡ Some x
found_by_name name [] k x h e = cc e
found_by_name name (y ∷ ys) zero x h e = let same : y ≡ x = cc e in rw (same, same_name.refl (name x)) refl
found_by_name name (y ∷ ys) (suc k) x h e =
    let other : is_same (name y) (name x) ≡ false = at_index (λ z. is_same (name y) z ≡ false) name ys k x (IsDistinct-head is_same (name y) (map name ys) h) e in
    let found = found_by_name name ys k x (IsDistinct-tail is_same (name y) (map name ys) h) e in
    rw (flip (name y) (name x) other) found

-- a change at a name that nothing has changes nothing
unchanged : {X : Type 0} (name : X → List ℕ) (change : X → X) (q : List ℕ) (xs : List X) → AllByRecursion (λ z. is_same q z ≡ false) (map name xs)
    → map (λ y. if is_same q (name y) then change y else y) xs ≡ xs
unchanged name change q [] all = refl
unchanged name change q (y ∷ ys) all = rw (all.0, unchanged name change q ys all.1) refl

-- a write at the index of a name is a change at that name
pub changed_at : {X : Type 0} (name : X → List ℕ) (change : X → X) (xs : List X) (k : ℕ) (x : X) → IsDistinct is_same (map name xs) → slice_get xs k ≡ Some x
    → slice_set xs k (change x) ≡ map (λ y. if is_same (name x) (name y) then change y else y) xs
changed_at name change [] k x h e = cc e
changed_at name change (y ∷ ys) zero x h e =
    let same : y ≡ x = cc e in
    let others = unchanged name change (name y) ys (IsDistinct-head is_same (name y) (map name ys) h) in
    let first : change y ∷ ys ≡ map (λ z. if is_same (name y) (name z) then change z else z) (y ∷ ys) = rw (same_name.refl (name y), others) refl in
    subst (λ w. change w ∷ ys ≡ map (λ z. if is_same (name w) (name z) then change z else z) (y ∷ ys)) same first
changed_at name change (y ∷ ys) (suc k) x h e =
    let other : is_same (name y) (name x) ≡ false = at_index (λ z. is_same (name y) z ≡ false) name ys k x (IsDistinct-head is_same (name y) (map name ys) h) e in
    let later = changed_at name change ys k x (IsDistinct-tail is_same (name y) (map name ys) h) e in
    rw (flip (name y) (name x) other, later) refl

pub length_map : {X Y : Type 0} (f : X → Y) (xs : List X) → length (map f xs) ≡ length xs
length_map f [] = refl
length_map f (x ∷ xs) = ap suc (length_map f xs)

-- ---- the index of what passes a test

-- what stands at the index that a search finds
pub found_at_place : {X : Type 0} (p : X → Bool) (xs : List X) (k : ℕ) → position p xs ≡ Some k → (find p xs ≡ slice_get xs k) × (k < length xs)
found_at_place p xs k e = elim (cases_lt (position_or_len p xs) (length xs)) [
  | inl lt ↦ let same : position_or_len p xs ≡ k = cc (rw (lt-ltb _ _ lt) at e) in (find_at p xs ∙ ap (slice_get xs) same, omega arith)
  | inr ge ↦ cc (rw (le-ltb _ _ ge) at e)
]

pub not_found : {X : Type 0} (p : X → Bool) (xs : List X) → position p xs ≡ None → find p xs ≡ None
not_found p xs e = elim (cases_lt (position_or_len p xs) (length xs)) [
  | inl lt ↦ cc (rw (lt-ltb _ _ lt) at e)
  | inr ge ↦ find_at p xs ∙ slice_get_past xs _ ge
]

from_none : {X : Type 0} (p : X → Bool) (i : ℕ) (xs : List X) → find p xs ≡ None → position_from p i xs ≡ None
from_none p i [] e = refl
from_none p i (x ∷ xs) e = elim (cases_Bool (p x)) [
  | inl passes ↦ cc (rw passes at e)
  | inr fails ↦ rw fails (from_none p (i + 1) xs (rw fails at e))
]

from_push : {X : Type 0} (p : X → Bool) (i : ℕ) (xs : List X) (y : X) → p y ≡ false → position_from p i (xs ++ y ∷ []) ≡ position_from p i xs
from_push p i [] y fails = rw fails refl
from_push p i (x ∷ xs) y fails = ap (λ (r : Option ℕ). cond (p x) (Some i) r) (from_push p (i + 1) xs y fails)

from_new : {X : Type 0} (p : X → Bool) (i : ℕ) (xs : List X) (y : X) → p y ≡ true → position_from p i xs ≡ None → position_from p i (xs ++ y ∷ []) ≡ Some (i + length xs)
from_new p i [] y passes none = let same : i ≡ i + 0 = omega arith in rw passes (ap Some same)
from_new p i (x ∷ xs) y passes none = elim (cases_Bool (p x)) [
  | inl first ↦ cc (rw first at none)
  | inr fails ↦ let same : i + 1 + length xs ≡ i + suc (length xs) = omega arith in rw fails (from_new p (i + 1) xs y passes (rw fails at none) ∙ ap Some same)
]

-- nothing has an index where nothing is found
pub no_place : {X : Type 0} (p : X → Bool) (xs : List X) → find p xs ≡ None → position p xs ≡ None
no_place p xs e = position_from-zero p xs ∙ from_none p 0 xs e

-- one more, which the test does not find; the first that it finds
pub position-push : {X : Type 0} (p : X → Bool) (xs : List X) (y : X) → p y ≡ false → position p (xs ++ y ∷ []) ≡ position p xs
position-push p xs y fails = position_from-zero p (xs ++ y ∷ []) ∙ (from_push p 0 xs y fails ∙ sym (position_from-zero p xs))

pub position-new : {X : Type 0} (p : X → Bool) (xs : List X) (y : X) → p y ≡ true → position p xs ≡ None → position p (xs ++ y ∷ []) ≡ Some (length xs)
position-new p xs y passes none =
    let same : 0 + length xs ≡ length xs = omega arith in
    position_from-zero p (xs ++ y ∷ []) ∙ (from_new p 0 xs y passes (sym (position_from-zero p xs) ∙ none) ∙ ap Some same)

-- another in the place of one, where the test does not tell them apart
pub position-set : {X : Type 0} (p : X → Bool) (xs : List X) (k : ℕ) (y d : X) → p y ≡ p (get_or xs k d) → position p (slice_set xs k y) ≡ position p xs
position-set p xs k y d same = rw (position_or_len-set p xs k y d same, length-set xs k y) refl

-- what is found has the name
pub has_name : {X : Type 0} (name : X → List ℕ) (q : List ℕ) (xs : List X) (x : X) → find (λ y. is_same q (name y)) xs ≡ Some x → name x ≡ q
has_name name q [] x e = cc e
has_name name q (y ∷ ys) x e = elim (cases_Bool (is_same q (name y))) [
  | inl here ↦
      let same : y ≡ x = cc (rw here at e) in
      let equal : q ≡ name y = (bytes_decides q (name y)).0 here in
      sym (ap name same) ∙ sym equal
  | inr other ↦ has_name name q ys x (rw other at e)
]

-- where nothing is found, nothing has the name
pub nothing_named : {X : Type 0} (name : X → List ℕ) (q : List ℕ) (xs : List X) → find (λ y. is_same q (name y)) xs ≡ None → list_any (is_same q) (map name xs) ≡ false
nothing_named name q [] e = refl
nothing_named name q (y ∷ ys) e = elim (cases_Bool (is_same q (name y))) [
  | inl here ↦ cc (rw here at e)
  | inr other ↦ rw other (nothing_named name q ys (rw other at e))
]

-- a change at a name, where it keeps names: what is found at that name is changed, and the rest stays
pub find-changed : {X : Type 0} (name : X → List ℕ) (change : X → X) (n : List ℕ) → ((x : X) → name x ≡ n → name (change x) ≡ n) → (xs : List X) (q : List ℕ)
    → find (λ x. is_same q (name x)) (map (λ x. if is_same n (name x) then change x else x) xs)
    ≡ (if is_same q n then option_map change (find (λ x. is_same q (name x)) xs) else find (λ x. is_same q (name x)) xs)
find-changed name change n keeps [] q = elim (cases_Bool (is_same q n)) [ inl same ↦ rw same refl | inr other ↦ rw other refl ]
find-changed name change n keeps (x ∷ xs) q =
    let later = find-changed name change n keeps xs q in
    elim (cases_Bool (is_same n (name x))) [
      | inl changed ↦
          let is : name x ≡ n = sym ((bytes_decides n (name x)).0 changed) in
          let kept : name (change x) ≡ n = keeps x is in
          rw changed (rw (kept, is, later) (elim (cases_Bool (is_same q n)) [ inl same ↦ rw same refl | inr other ↦ rw other refl ]))
      | inr other ↦ rw other (rw later (elim (cases_Bool (is_same q n)) [
        | inl same ↦
            let is : q ≡ n = (bytes_decides q n).0 same in
            let differs : is_same q (name x) ≡ false = ap (λ z. is_same z (name x)) is ∙ other in
            rw (same, differs) refl
        | inr apart ↦ rw apart refl
      ]))
    ]

-- a change that keeps the names
pub names-changed : {X : Type 0} (name : X → List ℕ) (change : X → X) (n : List ℕ) → ((x : X) → name x ≡ n → name (change x) ≡ n) → (xs : List X)
    → map name (map (λ x. if is_same n (name x) then change x else x) xs) ≡ map name xs
names-changed name change n keeps [] = refl
names-changed name change n keeps (x ∷ xs) = elim (cases_Bool (is_same n (name x))) [
  | inl changed ↦
      let is : name x ≡ n = sym ((bytes_decides n (name x)).0 changed) in
      rw (changed, names-changed name change n keeps xs) (rw (keeps x is, is) refl)
  | inr other ↦ rw (other, names-changed name change n keeps xs) refl
]

-- what is read at an index within a list
pub read_at : {X : Type 0} (r : Option (Bor X)) (xs : List X) (k : ℕ) → is_some r ≡ nat_lt k (length xs) → IfSome r (λ x. x.now ≡ get_or xs k x.now) → k < length xs
    → option_map (λ x. x.now) r ≡ slice_get xs k
read_at None xs k some read lt = cc (some, lt-ltb k (length xs) lt)
read_at (Some x) xs k some read lt = ap Some read ∙ sym (slice_get-get_or xs k x.now lt)
