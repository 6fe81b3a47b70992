-- The state of an order.
use Rattle.std.specs.Prelude.{◌==◌, Bool, true, false, if◌then◌else◌, length}
use Rattle.wagons_and_orders.specs.declared.order_state.OrderState.{OrderState}
use Rattle.wagons_and_orders.specs.declared.order_state.OrderState.TheVariants.{Waiting, Promised, Filled, Withdrawn}
use Rattle.wagons_and_orders.specs.OrderRow.{OrderRowValue}
use Rattle.wagons_and_orders.specs.Lack.{is_waiting}

-- Withdrawn; Filled where as many wagons filled it as it wants; Waiting where it lacks one; Promised otherwise
abbrev pub state_of : OrderRowValue → OrderState
state_of row =
    if row.withdrawn then Withdrawn
    else if length row.filled == row.text.wagons then Filled
    else if is_waiting row then Waiting
    else Promised

-- the states of an open order
abbrev pub is_open_state : OrderState → Bool
is_open_state Waiting = true
is_open_state Promised = true
is_open_state Filled = false
is_open_state Withdrawn = false
