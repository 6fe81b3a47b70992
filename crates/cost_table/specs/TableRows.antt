-- A table as it is stored: each wagon's allowed orders alone, each with its cost.
use Rattle.std.specs.Prelude.{ℕ, if◌then◌else◌, ◌==◌, ◌+◌, List, [], ◌∷◌, length, map, Option, Some, None}
use Rattle.std.specs.List.{range_with_len}
use Rattle.cost_table.specs.Table.{Table, costs_at}

-- the cost that a row has for an order, if it has one
abbrev pub cost_in : List (ℕ × ℕ) → ℕ → Option ℕ
cost_in [] j = None
cost_in (cell ∷ row) j = if cell.0 == j then Some cell.1 else cost_in row j

-- what a row has for each of so many orders
abbrev pub costs_of : (orders : ℕ) → List (ℕ × ℕ) → List (Option ℕ)
costs_of orders row = map (cost_in row) (range_with_len 0 orders)

-- the orders from j on that have a cost, each with it
abbrev pub cells_of : ℕ → List (Option ℕ) → List (ℕ × ℕ)
cells_of j [] = []
cells_of j (None ∷ costs) = cells_of (j + 1) costs
cells_of j (Some cost ∷ costs) = (j, cost) ∷ cells_of (j + 1) costs

-- the row of wagon i
abbrev pub row_at : Table → ℕ → List (ℕ × ℕ)
row_at t i = cells_of 0 (costs_at t i)

-- the rows of all wagons
abbrev pub all_rows : Table → List (List (ℕ × ℕ))
all_rows t = map (cells_of 0) t.costs

-- the table that has these rows
abbrev pub table_with : (rows : List (List (ℕ × ℕ))) → (penalties lacks : List ℕ) → Table
table_with rows penalties lacks = record { costs = map (costs_of (length lacks)) rows; penalties = penalties; lacks = lacks }
