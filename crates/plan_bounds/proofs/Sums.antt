-- Sums of which one term is known.
use Rattle.std.proofs.Common.{◌≡◌, ◌∙◌, ◌+◌, ◌<◌, ◌≤◌, ℕ, zero, suc, List, length, get_or, inl, inr, ap, arith, subst}
use Rattle.std.specs.Prelude.{◌≢◌, slice_index}
use Rattle.std.specs.List.{sum, sum_by}
use Rattle.std.proofs.lemmas.List.Sums.{sum_by_more, sum_by-take-le}
use Rattle.std.proofs.Math.Nat.{eq-or-lt_of_le}
use Rattle.std.proofs.Math.Seq.{take-length}
use Rattle.cost_table.specs.Plan.{sum_below}
use Rattle.cost_table.proofs.Sums.{sum_below-same}
use Rattle.price_checker.proofs.Duality.{sum_below-items}

-- a sum is no less than one of its terms
pub sum_below-term : (n k : ℕ) (f : ℕ → ℕ) → k < n → f k ≤ sum_below n f
sum_below-term zero k f l = absurd (omega arith)
sum_below-term (suc n) k f l =
    let le : k ≤ n = omega arith in
    elim (eq-or-lt_of_le le) [
      | inl e ↦ let here : f k ≡ f n = ap f e in omega arith
      | inr l ↦ let i = sum_below-term n k f l in omega (arith, i)
    ]

pub sum_by-term : {X : Type 0} (f : X → ℕ) (xs : List X) (k : ℕ) (d : X) → k < length xs → f (get_or xs k d) ≤ sum_by f xs
sum_by-term f xs k d l =
    let more = sum_by_more f xs k d l in
    let le = sum_by-take-le f xs (k + 1) in
    omega (arith, more, le)

-- sums that differ in one term
pub sum_below-change : (n j : ℕ) (f g : ℕ → ℕ) → j < n → ((k : ℕ) → k < n → k ≢ j → f k ≡ g k) → sum_below n f + g j ≡ sum_below n g + f j
sum_below-change zero j f g l same = absurd (omega arith)
sum_below-change (suc n) j f g l same =
    let le : j ≤ n = omega arith in
    elim (eq-or-lt_of_le le) [
      | inl e ↦
          let before = sum_below-same n f g (λ k m. same k (omega arith) (λ q. omega arith)) in
          let f_here : f j ≡ f n = ap f e in
          let g_here : g j ≡ g n = ap g e in
          omega (arith, before)
      | inr m ↦
          let i = sum_below-change n j f g m (λ k l q. same k (omega arith) q) in
          let last : f n ≡ g n = same n (omega arith) (λ q. omega arith) in
          omega (arith, i)
    ]

-- the sum of a list is that of its items by index
pub sum_below-list : (xs : List ℕ) (n : ℕ) → length xs ≡ n → sum_below n (slice_index xs) ≡ sum xs
sum_below-list xs n long =
    let items : sum_below (length xs) (slice_index xs) ≡ sum xs = sum_below-items xs (length xs) (omega arith) ∙ ap sum (take-length xs) in
    subst (λ k. sum_below k (slice_index xs) ≡ sum xs) long items
