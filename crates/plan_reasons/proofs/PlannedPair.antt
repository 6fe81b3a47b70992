-- The wagon and the order of a pair that the table allows.
use Rattle.std.proofs.Common.{◌≡◌, ℕ, List, get_or, Some, arith}
use Rattle.std.specs.Prelude.{slice_get}
use Rattle.wagons_and_orders.specs.declared.free_wagon.FreeWagon.{FreeWagon}
use Rattle.wagons_and_orders.specs.Wanted.{WantedOrder}
use Rattle.line_network.specs.Network.{NetworkValue}
use Rattle.cost_table.specs.Plan.{IsAllowed}
use Rattle.cost_table.specs.Problem.{ProblemValue}
use Rattle.problem_table.specs.Allowed.{IsTableOf, Reaches}
use Rattle.plan_reasons.specs.Reasons.{HasWay}
use Rattle.plan_reasons.specs.CertifiedPlan.{CertifiedPlanValue}
use Rattle.plan_reasons.proofs.Arrivals.{order_count-table, standing}

-- they stand in the problem, and the wagon reaches the order at the kilometres of the pair's cell
pub record IsPlannedPair (net : NetworkValue) (problem : ProblemValue) (pair : ℕ × ℕ) (wagon : FreeWagon) (wanted : WantedOrder) : Type 0 where
  pub goes : slice_get problem.wagons pair.0 ≡ Some wagon
  pub order : slice_get problem.orders pair.1 ≡ Some wanted
  pub km : ℕ
  pub reaches : Reaches net problem.at wagon wanted.order km

-- what is read at the pair's positions of lists that are the problem's
pub planned_pair : (planned : CertifiedPlanValue) → IsTableOf planned.network planned.problem planned.priced.table → (pair : ℕ × ℕ) → IsAllowed planned.priced.table pair → (wagons : List FreeWagon) (orders : List WantedOrder) (wagon : FreeWagon) (wanted : WantedOrder)
    → wagons ≡ planned.problem.wagons → orders ≡ planned.problem.orders → wagon ≡ get_or wagons pair.0 wagon → wanted ≡ get_or orders pair.1 wanted
    → IsPlannedPair planned.network planned.problem pair wagon wanted
planned_pair planned table pair allowed wagons orders wagon wanted same_wagons same_orders is_wagon is_wanted =
    let problem = planned.problem in
    let goes : slice_get problem.wagons pair.0 ≡ Some wagon = standing wagons problem.wagons pair.0 wagon same_wagons (omega (arith, allowed.0, table.wagons)) is_wagon in
    let order : slice_get problem.orders pair.1 ≡ Some wanted =
    standing orders problem.orders pair.1 wanted same_orders (omega (arith, allowed.1, order_count-table planned.network problem planned.priced.table table)) is_wanted in
    record {
      goes = goes;
      order = order;
      km = allowed.2.0;
      reaches = (table.cells pair.0 pair.1 allowed.2.0 wagon wanted goes order).0 allowed.2.1;
    }

pub has_way : (net : NetworkValue) (problem : ProblemValue) (pair : ℕ × ℕ) (wagon : FreeWagon) (wanted : WantedOrder) → IsPlannedPair net problem pair wagon wanted → HasWay net wagon wanted.order
has_way net problem pair wagon wanted h = record { suits = h.reaches.suits; way = (h.km, h.reaches.minutes); distance = h.reaches.distance }
