-- A table of costs: what each wagon costs for each order, what each order lacks and what a missed wagon costs.
use Rattle.std.specs.Prelude.{ℕ, List, [], length, Option, None, slice_index, slice_index_or}

-- What is distributed. Each wagon has for each order a cost, or none where it may not serve it. Each order has the
-- penalty of a wagon that it misses, and how many wagons it lacks.
pub record Table : Type 0 where
  pub costs : List (List (Option ℕ))
  pub penalties : List ℕ
  pub lacks : List ℕ

-- what wagon i costs for each order; out of range there is none
abbrev pub costs_at : Table → ℕ → List (Option ℕ)
costs_at t i = slice_index_or t.costs i []

-- the cost of wagon i for order j, if the pair is allowed
abbrev pub cost_at : Table → ℕ → ℕ → Option ℕ
cost_at t i j = slice_index_or (costs_at t i) j None

abbrev pub penalty_at : Table → ℕ → ℕ
penalty_at t j = slice_index t.penalties j

abbrev pub lack_at : Table → ℕ → ℕ
lack_at t j = slice_index t.lacks j

abbrev pub wagon_count : Table → ℕ
wagon_count t = length t.costs

abbrev pub order_count : Table → ℕ
order_count t = length t.lacks
