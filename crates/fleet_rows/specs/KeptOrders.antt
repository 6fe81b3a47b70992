-- What the rows of an office's orders keep, whatever is done to them.
use Rattle.std.specs.Prelude.{◌≤◌, nat_eq, List, All}
use Rattle.std.specs.Cmp.Lexicographic.{pointwise}
use Rattle.std.specs.List.{IsDistinct}
use Rattle.wagons_and_orders.specs.OrderRow.{OrderRowValue, IsOrderRow}
use Rattle.fleet_rows.specs.Rows.{max_open_wagons, names_of, open_wagons}

-- orders of which no two have one name; each keeps what a row keeps, and the open ones want at most 500 wagons in all
pub record IsOrderRows (rows : List OrderRowValue) : Type 0 where
  pub distinct : IsDistinct (pointwise nat_eq) (names_of rows)
  pub each : All IsOrderRow rows
  pub few_open : open_wagons rows ≤ max_open_wagons
