-- Orders that lack wagons.
use Rattle.std.specs.Prelude.{ℕ}
use Rattle.move_messages.specs.Order.{Order}

-- an order, with how many wagons it lacks
pub record WantedOrder : Type 0 where
  pub order : Order
  pub lack : ℕ
