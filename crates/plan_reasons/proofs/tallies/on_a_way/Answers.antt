use Rattle.wagons_and_orders.specs.declared.free_wagon.FreeWagon.{FreeWagon}
use Rattle.wagons_and_orders.specs.Suits.{Suits}
use Rattle.plan_reasons.specs.Reasons.{HasWay, IsInTime}
use Rattle.plan_reasons.proofs.Narrow.{same_between}
use Rattle.plan_reasons.proofs.tallies.on_a_way.Goals as goal

pub returns-then-load-in_time : goal.returns-then-load-in_time
returns-then-load-in_time c =
    let net = c.args.planned.now.network in
    let problem = c.args.planned.now.problem in
    let order = c.args.order.now in
    same_between (λ (w : FreeWagon). Suits w order) (λ (w : FreeWagon). HasWay net w order) (λ (w : FreeWagon). IsInTime net problem.at w order) (λ wagon has. has.suits) (λ wagon r. record { suits = r.1.suits; way = (r.0, r.1.minutes); distance = r.1.distance }) problem.wagons c.args.load c.args.in_time c.if-load-in_time.true c.requires.load c.requires.in_time
