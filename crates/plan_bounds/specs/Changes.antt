-- Tables that differ from another in one order's lack or in one wagon.
use Rattle.std.specs.Prelude.{◌-◌, ℕ, max, List, [], ◌∷◌, ◌++◌, None, Option, replicate, slice_index, slice_set}
use Rattle.cost_table.specs.Table.{Table, order_count}

-- the same wagons and penalties; order j lacks n wagons
abbrev pub with_lack : Table → (j n : ℕ) → Table
with_lack t j n = record t { lacks = slice_set t.lacks j n }

-- the same orders; wagon i may serve none of them
abbrev pub without_wagon : Table → (i : ℕ) → Table
without_wagon t i = record t { costs = slice_set t.costs i (replicate (order_count t) None) }

-- the same orders; one wagon more, with these costs
abbrev pub with_wagon : Table → (costs : List (Option ℕ)) → Table
with_wagon t costs = record t { costs = t.costs ++ costs ∷ [] }

-- the most by which an order's price v exceeds its cost in a row
abbrev pub gain_of : (v : List ℕ) → (row : List (ℕ × ℕ)) → ℕ
gain_of v [] = 0
gain_of v (cell ∷ row) = max (slice_index v cell.0 - cell.1) (gain_of v row)
