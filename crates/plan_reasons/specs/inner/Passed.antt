-- The tests that one wagon passes for an order.
use Rattle.std.specs.Prelude.{◌↔◌, ℕ, IsTrue}
use Rattle.move_messages.specs.Order.{Order}
use Rattle.wagons_and_orders.specs.declared.free_wagon.FreeWagon.{FreeWagon}
use Rattle.wagons_and_orders.specs.Suits.{Suits}
use Rattle.line_network.specs.Network.{NetworkValue}
use Rattle.plan_reasons.specs.declared.reasons.Passed.{Passed}
use Rattle.plan_reasons.specs.Reasons.{HasWay, IsCheaper, IsInTime, IsOfClass}

pub record ArePassed (net : NetworkValue) (at : ℕ) (wagon : FreeWagon) (order : Order) (passed : Passed) : Type 0 where
  pub class : IsTrue passed.class ↔ IsOfClass wagon order
  pub load : IsTrue passed.load ↔ Suits wagon order
  pub way : IsTrue passed.way ↔ HasWay net wagon order
  pub in_time : IsTrue passed.in_time ↔ IsInTime net at wagon order
  pub cheaper : IsTrue passed.cheaper ↔ IsCheaper net at wagon order
