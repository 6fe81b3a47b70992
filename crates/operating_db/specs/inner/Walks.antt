-- What a walk over the indices of the waiting orders meets.
use Rattle.std.specs.Prelude.{ℕ, List, Option, slice_get}
use Rattle.std.specs.Option.{option_and_then}
use Rattle.wagons_and_orders.specs.OrderRow.{OrderRowValue}
use Rattle.wagons_and_orders.specs.Wanted.{WantedOrder}
use Rattle.operating_db.specs.Problem.{wanted_in}

-- the order at an index, where one stands there and lacks a wagon
abbrev pub wanted_at : List OrderRowValue → ℕ → Option WantedOrder
wanted_at rows index = option_and_then wanted_in (slice_get rows index)
