-- The limits of a lack.
use Rattle.std.specs.Prelude.{ℕ, ◌≤◌, nat_le, ◌&&◌, if◌then◌else◌, Option, Some, None}
use Rattle.move_messages.specs.Order.{Order}
use Rattle.move_messages.specs.OrderLimits.{max_order_wagons}
use Rattle.wagons_and_orders.specs.Wanted.{WantedOrder}

-- one wagon at least, and no more than an order wants
abbrev pub IsLack : ℕ → Type 0
IsLack lack = (1 ≤ lack) × (lack ≤ max_order_wagons)

-- an order that lacks a number of wagons within these limits
abbrev pub wanted_of : Order → ℕ → Option WantedOrder
wanted_of order lack = if nat_le 1 lack && nat_le lack max_order_wagons then Some (record { order = order; lack = lack }) else None
