-- Which wagon suits which order.
use Rattle.std.specs.Prelude.{◌≤◌}
use Rattle.std.specs.List.{Contains}
use Rattle.move_messages.specs.Order.{Order}
use Rattle.wagons_and_orders.specs.declared.free_wagon.FreeWagon.{FreeWagon}

-- a wagon suits an order where its class is listed, as a whole text, and the load is within its limit
pub record Suits (wagon : FreeWagon) (order : Order) : Type 0 where
  pub class : Contains order.classes wagon.class
  pub load : order.load ≤ wagon.load_limit
