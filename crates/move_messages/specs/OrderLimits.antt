-- The limits of an order's numbers.
use Rattle.std.specs.Prelude.{ℕ, Bool, ◌≤◌, nat_le, ◌&&◌, if◌then◌else◌, Option, Some, None}
use Rattle.move_messages.specs.MaxLoad.{max_load}
use Rattle.move_messages.specs.Order.{Order}

-- the greatest penalty of a missing wagon, in km
abbrev pub max_penalty : ℕ
max_penalty = 1_000_000_000

-- the most wagons that one order wants; it wants one at least
abbrev pub max_order_wagons : ℕ
max_order_wagons = 20

-- an order whose numbers are within their limits
abbrev pub IsOrder : Order → Type 0
IsOrder order =
    (order.load ≤ max_load) × (order.penalty ≤ max_penalty) × (1 ≤ order.wagons) × (order.wagons ≤ max_order_wagons)

abbrev pub is_within_limits : Order → Bool
is_within_limits order =
    nat_le order.load max_load && nat_le order.penalty max_penalty && nat_le 1 order.wagons && nat_le order.wagons max_order_wagons

-- an order within its limits
abbrev pub order_of : Order → Option Order
order_of order = if is_within_limits order then Some order else None
