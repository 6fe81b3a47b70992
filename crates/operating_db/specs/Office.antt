-- What an office knows.
use Rattle.std.specs.Prelude.{ℕ, List}
use Rattle.wagons_and_orders.specs.declared.wagon_row.WagonRow.{WagonRow}
use Rattle.wagons_and_orders.specs.OrderRow.{OrderRowValue}

-- An office: a row for each wagon, ascending by number; the orders, as placed; the network in force, counted from 1.
pub record Office : Type 0 where
  pub wagons : List WagonRow
  pub orders : List OrderRowValue
  pub network : ℕ
