-- How a plan is kept.
use Rattle.std.specs.Prelude.{◌≡◌, ◌<◌, ◌≤◌, ◌⊎◌, ℕ, List, [], ◌∷◌}
use Rattle.cost_table.specs.Plan.{uses}

-- by order, then by wagon
abbrev pub Precedes : ℕ × ℕ → ℕ × ℕ → Type 0
Precedes p q = (p.1 < q.1) ⊎ ((p.1 ≡ q.1) × (p.0 < q.0))

abbrev pub IsAscendingFrom : ℕ × ℕ → List (ℕ × ℕ) → Type 0
IsAscendingFrom p [] = Unit {0}
IsAscendingFrom p (q ∷ pairs) = Precedes p q × IsAscendingFrom q pairs

abbrev pub IsAscendingPlan : List (ℕ × ℕ) → Type 0
IsAscendingPlan [] = Unit {0}
IsAscendingPlan (p ∷ pairs) = IsAscendingFrom p pairs

-- how a plan is kept: its pairs ascend by order, then by wagon, and no wagon stands twice
pub record IsPlanList (pairs : List (ℕ × ℕ)) : Type 0 where
  pub ascending : IsAscendingPlan pairs
  pub once : (i : ℕ) → uses i pairs ≤ 1
