-- Plans of a table: which pairs are a plan, what a plan costs, and when no plan costs less.
use Rattle.std.specs.Prelude.{◌≡◌, ◌+◌, ◌-◌, ◌*◌, ◌<◌, ◌≤◌, ℕ, zero, suc, ◌==◌, List, [], ◌∷◌, Some, unwrap_or}
use Rattle.std.specs.List.{count_by, sum_by}
use Rattle.cost_table.specs.Table.{Table, cost_at, penalty_at, lack_at, wagon_count, order_count}

-- the sum of f at each number below n
abbrev pub sum_below : ℕ → (ℕ → ℕ) → ℕ
sum_below zero f = 0
sum_below (suc n) f = sum_below n f + f n

-- how many of the pairs are of wagon i; of order j
abbrev pub uses : ℕ → List (ℕ × ℕ) → ℕ
uses i pairs = count_by (λ (p : ℕ × ℕ). p.0 == i) pairs

abbrev pub serves : ℕ → List (ℕ × ℕ) → ℕ
serves j pairs = count_by (λ (p : ℕ × ℕ). p.1 == j) pairs

abbrev pub IsAllowed : Table → ℕ × ℕ → Type 0
IsAllowed t p = (p.0 < wagon_count t) × (p.1 < order_count t) × ((c : ℕ) × (cost_at t p.0 p.1 ≡ Some c))

abbrev pub AllAllowed : Table → List (ℕ × ℕ) → Type 0
AllAllowed t [] = Unit {0}
AllAllowed t (p ∷ pairs) = IsAllowed t p × AllAllowed t pairs

-- Pairs of a wagon and an order that are allowed, no wagon more than once and no order more than it lacks.
pub record IsPlan (t : Table) (pairs : List (ℕ × ℕ)) : Type 0 where
  pub allowed : AllAllowed t pairs
  pub once : (i : ℕ) → uses i pairs ≤ 1
  pub within : (j : ℕ) → j < order_count t → serves j pairs ≤ lack_at t j

abbrev pub pair_cost : Table → ℕ × ℕ → ℕ
pair_cost t p = unwrap_or (cost_at t p.0 p.1) 0

-- the penalty of each wagon that order j misses
abbrev pub missed_cost : Table → List (ℕ × ℕ) → ℕ → ℕ
missed_cost t pairs j = penalty_at t j * (lack_at t j - serves j pairs)

abbrev pub cost_of : Table → List (ℕ × ℕ) → ℕ
cost_of t pairs = sum_by (pair_cost t) pairs + sum_below (order_count t) (missed_cost t pairs)

-- no plan of the table costs less
abbrev pub IsOptimal : Table → List (ℕ × ℕ) → Type 0
IsOptimal t pairs = IsPlan t pairs × ((others : List (ℕ × ℕ)) → IsPlan t others → cost_of t pairs ≤ cost_of t others)
