-- How many free wagons of a class stand at a place.
use Rattle.std.specs.Prelude.{ℕ, List, count_by}
use Rattle.wagons_and_orders.specs.declared.wagon_row.WagonRow.{WagonRow}
use Rattle.fleet_rows.specs.FreeWagons.{is_of_class_at}
use Rattle.operating_db.specs.Problem.{free_wagons}

-- how many free wagons of a class stand at a place
abbrev pub free_count : List WagonRow → (class place : List ℕ) → ℕ
free_count rows class place = count_by (is_of_class_at class place) (free_wagons rows)
