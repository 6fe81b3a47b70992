use Rattle.std.proofs.Common.{◌≡◌, Some, ap, ◌∙◌}
use Rattle.std.specs.Prelude.{slice_get}
use Rattle.std.proofs.lemmas.Result.{on_ok_weaker}
use Rattle.cost_table.specs.Problem.{ProblemValue}
use Rattle.plan_reasons.proofs.Arrivals.{standing}
use Rattle.plan_reasons.proofs.Passing.{passing_cheaper}
use Rattle.plan_reasons.proofs.PairFields.{fits_added}
use Rattle.plan_reasons.proofs.pair_line.push_fits_line.Goals as goal

pub returns : goal.returns
returns c =
    let net = c.args.planned.now.network in
    let problem = c.args.planned.now.problem in
    let wagon = c.index-wagons-fit.result in
    let wanted = c.index-orders-fit.result in
    let free : slice_get problem.wagons c.args.fit.pair.0 ≡ Some wagon = standing c.wagons.result.now problem.wagons c.args.fit.pair.0 wagon (c.wagons.ensures.wagons ∙ ap (λ (p : ProblemValue). p.wagons) c.problem-problem.ensures.value) c.requires.0.0.0 c.index-wagons-fit.is in
    let stands : slice_get problem.orders c.args.fit.pair.1 ≡ Some wanted = standing c.orders.result.now problem.orders c.args.fit.pair.1 wanted (c.orders.ensures.orders ∙ ap (λ (p : ProblemValue). p.orders) c.problem-problem.ensures.value) c.requires.0.0.1 c.index-orders-fit.is in
    let passes = passing_cheaper net problem c.args.planned.now.priced.table c.problem-problem.ensures.table c.args.fit.pair.0 c.args.fit.pair.1 wagon wanted free stands c.requires.0.1 in
    on_ok_weaker c.end_line.result (λ last. fits_added c.args.style c.args.numbers net problem c.args.planned.now.priced c.args.fit wagon wanted _ _ _ _ _ free stands c.order-order.ensures passes c.requires.1 c.in_ok-push_costs.ensures.km c.in_ok-push_costs.ensures.more c.in_ok-push_pair.ensures c.in_ok-push_costs.ensures.text last) c.end_line.ensures
