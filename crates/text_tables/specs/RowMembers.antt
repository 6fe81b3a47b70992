-- A row as the members of an object: its titles, each with its cell.
use Rattle.std.specs.Prelude.{ℕ, ◌==◌, if◌then◌else◌, List, map, length, slice_index_or}
use Rattle.std.specs.List.{range_with_len}
use Rattle.json.specs.Json.{Json, null, number, string}
use Rattle.text_tables.specs.Aligned.{cell_at}
use Rattle.text_tables.specs.JsonLines.{Member}
use Rattle.text_tables.specs.JsonRows.{stands_bare}
use Rattle.text_tables.specs.Row.{Row}
use Rattle.text_tables.specs.declared.aligned.Side.{Side}
use Rattle.text_tables.specs.declared.aligned.Side.TheVariants.{Left}

-- what a cell is: null where it is empty, a number where it is one and stands at the right, else a text
abbrev pub cell_value : Side → (cell : List ℕ) → Json
cell_value side cell = if length cell == 0 then null else if stands_bare side cell then number cell else string cell

-- the member of column k
abbrev pub column_member : List Side → (titles : Row) → Row → (k : ℕ) → Member
column_member sides titles row k = (cell_at titles k, cell_value (slice_index_or sides k Left) (cell_at row k))

-- those of all columns
abbrev pub row_members : List Side → (titles : Row) → Row → List Member
row_members sides titles row = map (column_member sides titles row) (range_with_len 0 (length titles))
