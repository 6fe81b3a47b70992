-- What the lines of a checkpoint say that were read so far.
use Rattle.std.specs.Prelude.{ℕ, Bool, false, List, [], Option, None}
use Rattle.wagons_and_orders.specs.declared.wagon_row.WagonRow.{WagonRow}
use Rattle.wagons_and_orders.specs.OrderRow.{OrderRowValue}

-- the network in force, once the head was read; the wagons and the orders so far; whether the last line was read
pub record PartsValue : Type 0 where
  pub network : Option ℕ
  pub wagons : List WagonRow
  pub orders : List OrderRowValue
  pub ended : Bool

-- before the first line
abbrev pub no_parts : PartsValue
no_parts = record { network = None; wagons = []; orders = []; ended = false }
