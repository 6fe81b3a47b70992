use Rattle.std.proofs.Common.{◌≡◌, ◌∙◌, ℕ, ap, refl, sym, subst, arith}
use Rattle.move_messages.specs.Order.{Order}
use Rattle.line_network.specs.Distance.{IsDistance}
use Rattle.line_network.specs.Network.{NetworkValue}
use Rattle.plan_reasons.specs.Reasons.{HasWay}
use Rattle.cost_table.specs.Problem.{ProblemValue}
use Rattle.plan_reasons.proofs.Arrivals.{of_ok}
use Rattle.plan_reasons.proofs.Passed.{in_time_by}
use Rattle.plan_reasons.proofs.PlannedPair.{has_way, planned_pair}
use Rattle.plan_reasons.proofs.journey.journey_of.Goals as goal

pub way_of-km-requires : goal.way_of-km-requires
way_of-km-requires c =
    let wagon = c.index-wagons-pair.result in
    let wanted = c.index-orders-pair.result in
    let there = planned_pair c.args.planned.now c.problem-problem.ensures.table c.args.pair c.requires c.wagons.result.now c.orders.result.now wagon wanted (c.wagons.ensures.wagons ∙ ap (λ (p : ProblemValue). p.wagons) c.problem-problem.ensures.value) (c.orders.ensures.orders ∙ ap (λ (p : ProblemValue). p.orders) c.problem-problem.ensures.value) c.index-wagons-pair.is c.index-orders-pair.is in
    rw c.tables.ensures (subst (λ (o : Order). HasWay c.args.planned.now.network wagon o) (sym c.order-order.ensures) (has_way c.args.planned.now.network c.args.planned.now.problem c.args.pair wagon wanted there))

pub unwrap-at-requires : goal.unwrap-at-requires
unwrap-at-requires c =
    let wagon = c.index-wagons-pair.result in
    let wanted = c.index-orders-pair.result in
    let there = planned_pair c.args.planned.now c.problem-problem.ensures.table c.args.pair c.requires c.wagons.result.now c.orders.result.now wagon wanted (c.wagons.ensures.wagons ∙ ap (λ (p : ProblemValue). p.wagons) c.problem-problem.ensures.value) (c.orders.ensures.orders ∙ ap (λ (p : ProblemValue). p.orders) c.problem-problem.ensures.value) c.index-wagons-pair.is c.index-orders-pair.is in
    let net = c.args.planned.now.network in
    let way = c.way_of-km.result in
    let led = subst (λ (n : NetworkValue). IsDistance n wagon.place c.order-order.result.now.place way) c.tables.ensures c.way_of-km.ensures in
    let distance = subst (λ (o : Order). IsDistance net wagon.place o.place way) c.order-order.ensures led in
    let in_time = in_time_by net c.args.planned.now.problem.at wagon wanted.order way there.km distance there.reaches in
    let latest = ap (λ (order : Order). order.latest) c.order-order.ensures in
    c.from_seconds.ensures.accepts.1 (c.arrival.ensures.from, omega (arith, in_time, c.arrival.ensures.value, c.at.ensures, ap (λ (p : ProblemValue). p.at) c.problem-problem.ensures.value, c.latest.ensures, c.for_the_prover.ensures.1, c.latest.ensures, latest))

pub returns : goal.returns
returns c =
    let wagon = c.index-wagons-pair.result in
    let wanted = c.index-orders-pair.result in
    let there = planned_pair c.args.planned.now c.problem-problem.ensures.table c.args.pair c.requires c.wagons.result.now c.orders.result.now wagon wanted (c.wagons.ensures.wagons ∙ ap (λ (p : ProblemValue). p.wagons) c.problem-problem.ensures.value) (c.orders.ensures.orders ∙ ap (λ (p : ProblemValue). p.orders) c.problem-problem.ensures.value) c.index-wagons-pair.is c.index-orders-pair.is in
    let led = subst (λ (n : NetworkValue). IsDistance n wagon.place c.order-order.result.now.place c.way_of-km.result) c.tables.ensures c.way_of-km.ensures in
    let kept = of_ok (λ (m : ℕ). m ≡ c.arrival.result) c.from_seconds.result c.unwrap-at.result c.unwrap-at.ensures c.from_seconds.ensures.kept in
    record {
      wagon = wagon;
      goes = there.goes;
      wanted = wanted;
      order = there.order;
      number = refl;
      class = refl;
      from_place = refl;
      to_place = c.place.ensures ∙ ap (λ (o : Order). o.place) c.order-order.ensures;
      name = c.id.ensures ∙ ap (λ (o : Order). o.id) c.order-order.ensures;
      distance = subst (λ (o : Order). IsDistance c.args.planned.now.network wagon.place o.place c.way_of-km.result) c.order-order.ensures led;
      arrives = omega (arith, kept, c.arrival.ensures.value, c.at.ensures, ap (λ (p : ProblemValue). p.at) c.problem-problem.ensures.value);
    }
