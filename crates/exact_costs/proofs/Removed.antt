-- A list of pairs less one of them.
use Rattle.std.proofs.Common.{◌≡◌, ◌+◌, ◌<◌, ◌≤◌, ℕ, zero, suc, List, [], ◌∷◌, length, get_or, inl, inr, arith}
use Rattle.std.specs.Prelude.{◌==◌, ◌≢◌}
use Rattle.std.specs.List.{sum_by}
use Rattle.std.proofs.lemmas.Bool.{cases_Bool}
use Rattle.std.proofs.lemmas.Bool.Decides.{nat_tests}
use Rattle.std.proofs.lemmas.List.Sums.{sum_by-cons}
use Rattle.cost_table.specs.Table.{Table}
use Rattle.cost_table.specs.Plan.{AllAllowed, IsAllowed, serves, uses}
use Rattle.plan_bounds.specs.Bounds.{HasPair}
use Rattle.exact_costs.proofs.Sums.{serves-other, uses-other}

-- an allowed pair of the list, and the others
pub record Removed (t : Table) (ps : List (ℕ × ℕ)) : Type 0 where
  pub pair : ℕ × ℕ
  pub rest : List (ℕ × ℕ)
  pub is_allowed : IsAllowed t pair
  pub rest_allowed : AllAllowed t rest
  pub sums : (f : ℕ × ℕ → ℕ) → sum_by f ps ≡ f pair + sum_by f rest

first_removed : (t : Table) (q : ℕ × ℕ) (ps : List (ℕ × ℕ)) → AllAllowed t (q ∷ ps) → Removed t (q ∷ ps)
first_removed t q ps h = record { pair = q; rest = ps; is_allowed = h.0; rest_allowed = h.1; sums = λ f. sum_by-cons f q ps }

later_removed : (t : Table) (q : ℕ × ℕ) (ps : List (ℕ × ℕ)) → IsAllowed t q → Removed t ps → Removed t (q ∷ ps)
later_removed t q ps h r = record {
  pair = r.pair;
  rest = q ∷ r.rest;
  is_allowed = r.is_allowed;
  rest_allowed = (h, r.rest_allowed);
  sums = λ f. omega (arith, sum_by-cons f q ps, sum_by-cons f q r.rest, r.sums f);
}

-- a pair of wagon i
pub record RemovedOf (t : Table) (i : ℕ) (ps : List (ℕ × ℕ)) : Type 0 where
  pub removed : Removed t ps
  pub wagon : removed.pair.0 ≡ i

pub remove_wagon : (t : Table) (i : ℕ) (ps : List (ℕ × ℕ)) → AllAllowed t ps → 1 ≤ uses i ps → RemovedOf t i ps
unfolding first_removed later_removed
remove_wagon t i [] h there = absurd (omega (arith, there))
remove_wagon t i (q ∷ ps) h there =
    let rest = remove_wagon t i ps h.1 in
    elim (cases_Bool (q.0 == i)) [
      | inl e ↦ record { removed = first_removed t q ps h; wagon = grind (arith, nat_tests, e) }
      | inr e ↦
          let other : q.0 ≢ i = grind (arith, nat_tests, e) in
          let before = rest (omega (arith, there, uses-other i q ps other)) in
          record { removed = later_removed t q ps h.0 before.removed; wagon = before.wagon }
    ]

-- a pair of order j
pub record RemovedFor (t : Table) (j : ℕ) (ps : List (ℕ × ℕ)) : Type 0 where
  pub removed : Removed t ps
  pub order : removed.pair.1 ≡ j

pub remove_order : (t : Table) (j : ℕ) (ps : List (ℕ × ℕ)) → AllAllowed t ps → 1 ≤ serves j ps → RemovedFor t j ps
unfolding first_removed later_removed
remove_order t j [] h there = absurd (omega (arith, there))
remove_order t j (q ∷ ps) h there =
    let rest = remove_order t j ps h.1 in
    elim (cases_Bool (q.1 == j)) [
      | inl e ↦ record { removed = first_removed t q ps h; order = grind (arith, nat_tests, e) }
      | inr e ↦
          let other : q.1 ≢ j = grind (arith, nat_tests, e) in
          let before = rest (omega (arith, there, serves-other j q ps other)) in
          record { removed = later_removed t q ps h.0 before.removed; order = before.order }
    ]

-- a pair that the list has
pub record RemovedPair (t : Table) (i j : ℕ) (ps : List (ℕ × ℕ)) : Type 0 where
  pub removed : Removed t ps
  pub pair : removed.pair ≡ (i, j)

remove_at : (t : Table) (i j k : ℕ) (ps : List (ℕ × ℕ)) → AllAllowed t ps → k < length ps → get_or ps k (i, j) ≡ (i, j) → RemovedPair t i j ps
unfolding first_removed later_removed
remove_at t i j k [] h l is = absurd (omega (arith, l))
remove_at t i j zero (q ∷ ps) h l is = record { removed = first_removed t q ps h; pair = is }
remove_at t i j (suc k) (q ∷ ps) h l is =
    let before = remove_at t i j k ps h.1 (omega (arith, l)) is in
    record { removed = later_removed t q ps h.0 before.removed; pair = before.pair }

pub remove_pair : (t : Table) (i j : ℕ) (ps : List (ℕ × ℕ)) → AllAllowed t ps → HasPair i j ps → RemovedPair t i j ps
remove_pair t i j ps h has = remove_at t i j has.0 ps h has.1 has.2
