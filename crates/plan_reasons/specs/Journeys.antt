-- The journey of a wagon that goes: how far, and when it is there.
use Rattle.std.specs.Prelude.{◌≡◌, ℕ, ◌+◌, ◌*◌, max, Some, slice_get}
use Rattle.wagons_and_orders.specs.declared.free_wagon.FreeWagon.{FreeWagon}
use Rattle.wagons_and_orders.specs.Wanted.{WantedOrder}
use Rattle.line_network.specs.Network.{NetworkValue}
use Rattle.line_network.specs.Distance.{IsDistance}
use Rattle.cost_table.specs.Problem.{ProblemValue}
use Rattle.plan_reasons.specs.declared.journey.Journey.{Journey}

-- The wagon and the order of a pair, and the distance between them. The wagon starts at the problem's moment, or when it is
-- ready.
pub record IsJourney (net : NetworkValue) (problem : ProblemValue) (pair : ℕ × ℕ) (journey : Journey) : Type 0 where
  pub wagon : FreeWagon
  pub goes : slice_get problem.wagons pair.0 ≡ Some wagon
  pub wanted : WantedOrder
  pub order : slice_get problem.orders pair.1 ≡ Some wanted
  pub number : journey.wagon ≡ wagon.number
  pub class : journey.class ≡ wagon.class
  pub from_place : journey.from ≡ wagon.place
  pub to_place : journey.to ≡ wanted.order.place
  pub name : journey.order ≡ wanted.order.id
  pub distance : IsDistance net wagon.place wanted.order.place (journey.km, journey.minutes)
  pub arrives : journey.arrival ≡ max wagon.ready problem.at + 60 * journey.minutes
