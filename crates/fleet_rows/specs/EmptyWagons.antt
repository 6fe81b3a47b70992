-- Empty wagons that nobody holds, promised or not, by class and place.
use Rattle.std.specs.Prelude.{ℕ, ◌+◌, Bool, if◌then◌else◌, List, [], ◌∷◌, Option, None, is_some}
use Rattle.std.specs.List.{filter, filter_map}
use Rattle.std.specs.Option.{option_and_then}
use Rattle.wagons_and_orders.specs.Free.{free_by}
use Rattle.wagons_and_orders.specs.declared.free_wagon.FreeWagon.{FreeWagon}
use Rattle.wagons_and_orders.specs.declared.wagon_row.WagonRow.{WagonRow}
use Rattle.fleet_rows.specs.FreeWagons.{is_of_class_at, is_one_at}

-- the wagon of a row as a free one, were it promised to nobody: where it is Empty and not held
abbrev pub empty_of : WagonRow → Option FreeWagon
empty_of row = free_by row row.status row.held None

-- whether the wagon of a row is Empty and not held
abbrev pub is_empty : WagonRow → Bool
is_empty row = is_some (empty_of row)

-- whether it is of this class too, and stands at this place
abbrev pub is_empty_at : (class place : List ℕ) → WagonRow → Bool
is_empty_at class place row = is_one_at class place (empty_of row)

-- the indexes of the rows that pass a test, ascending, where the first row stands at this index
abbrev pub indexes_from : (WagonRow → Bool) → ℕ → List WagonRow → List ℕ
indexes_from test first [] = []
indexes_from test first (row ∷ rows) = if test row then first ∷ indexes_from test (first + 1) rows else indexes_from test (first + 1) rows

-- The map from class to place to number to wagon: at a class and a place its wagons, ascending by number, as rows do.
abbrev pub empty_wagons : List WagonRow → (class place : List ℕ) → List FreeWagon
empty_wagons rows class place = filter (is_of_class_at class place) (filter_map empty_of rows)

-- where their rows are
abbrev pub empty_at : List WagonRow → (class place : List ℕ) → List ℕ
empty_at rows class place = indexes_from (is_empty_at class place) 0 rows

-- the wagon of a row, where there is one and it is empty and not held
abbrev pub empty_in : Option WagonRow → Option FreeWagon
empty_in row = option_and_then empty_of row
