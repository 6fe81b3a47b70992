-- A row of a table.
use Rattle.std.specs.Prelude.{ℕ, List}

-- the cells of a row, from the left
abbrev pub Row : Type 0
Row = List (List ℕ)
