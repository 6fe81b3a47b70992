-- A row whose cells stand in two places.
use Rattle.std.specs.Prelude.{ℕ, List, ◌++◌}
use Rattle.cost_table.specs.declared.row.Row.{Row}

-- its cells, one after another
abbrev pub cells_in : Row → List (ℕ × ℕ)
cells_in row = row.first.now ++ row.rest.now
