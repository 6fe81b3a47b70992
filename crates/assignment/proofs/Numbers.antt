use Rattle.std.proofs.Common.{◌≡◌, ◌≢◌, ◌<◌, ℕ, List, Some, None, length, get_or, set, sym, ◌∙◌, ap, arith, inl, inr}
use Rattle.std.proofs.lemmas.Bool.{cases_eq}
use Rattle.std.proofs.lemmas.Bool.Decides.{nat_tests}
use Rattle.std.proofs.lemmas.List.{length-map, get_or-map, map-set}
use Rattle.assignment.specs.inner.State.{order_of_number, orders_of}

some_is : (n : ℕ) → n ≢ 4294967295 → order_of_number n ≡ Some n
some_is n other = grind (arith, nat_tests, other)

none_is : (n : ℕ) → n ≡ 4294967295 → order_of_number n ≡ None
none_is n same = grind (arith, nat_tests, same)

pub orders_length : (h : List ℕ) → length (orders_of h) ≡ length h
orders_length h = length-map h order_of_number

-- the order of a wagon whose number stands for one
pub some_at : (h : List ℕ) (i : ℕ) → i < length h → get_or h i 0 ≢ 4294967295 → get_or (orders_of h) i None ≡ Some (get_or h i 0)
some_at h i l other = get_or-map order_of_number h i 0 None l ∙ some_is (get_or h i 0) other

pub none_at : (h : List ℕ) (i : ℕ) → i < length h → get_or h i 0 ≡ 4294967295 → get_or (orders_of h) i None ≡ None
none_at h i l same = get_or-map order_of_number h i 0 None l ∙ none_is (get_or h i 0) same

same_number : (n k : ℕ) → order_of_number n ≡ Some k → n ≡ k
same_number n k e = elim (cases_eq n 4294967295) [
  | inl same ↦ absurd (let s = none_is n same in cc)
  | inr other ↦ let s = some_is n other in cc
]

pub number_some : (h : List ℕ) (i k : ℕ) → i < length h → get_or (orders_of h) i None ≡ Some k → get_or h i 0 ≡ k
number_some h i k l e = same_number (get_or h i 0) k (sym (get_or-map order_of_number h i 0 None l) ∙ e)

pub orders_set : (h : List ℕ) (i n : ℕ) → n < 4294967295 → orders_of (set h i n) ≡ set (orders_of h) i (Some n)
orders_set h i n l = map-set order_of_number h i n ∙ ap (set (orders_of h) i) (some_is n (λ e. omega (arith, l, e)))
