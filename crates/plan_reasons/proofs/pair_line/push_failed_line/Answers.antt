use Rattle.std.proofs.Common.{◌≡◌, Some, ◌∙◌, ap}
use Rattle.std.specs.Prelude.{slice_get}
use Rattle.std.proofs.lemmas.Result.{on_ok_weaker}
use Rattle.cost_table.specs.Problem.{ProblemValue}
use Rattle.plan_reasons.specs.PlaceFields.{names_of}
use Rattle.plan_reasons.proofs.Arrivals.{standing}
use Rattle.plan_reasons.proofs.PairFields.{failed_added, failed_first}
use Rattle.plan_reasons.proofs.pair_line.push_failed_line.Goals as goal

pub push_test_line-requires : goal.push_test_line-requires
push_test_line-requires c =
    let net = c.args.planned.now.network in
    let problem = c.args.planned.now.problem in
    let wagon = c.index-wagons-failed.result in
    let wanted = c.index-orders-failed.result in
    let free : slice_get problem.wagons c.args.failed.pair.0 ≡ Some wagon = standing c.wagons.result.now problem.wagons c.args.failed.pair.0 wagon (c.wagons.ensures.wagons ∙ ap (λ (p : ProblemValue). p.wagons) c.problem-problem.ensures.value) c.requires.0.0 c.index-wagons-failed.is in
    let stands : slice_get problem.orders c.args.failed.pair.1 ≡ Some wanted = standing c.orders.result.now problem.orders c.args.failed.pair.1 wanted (c.orders.ensures.orders ∙ ap (λ (p : ProblemValue). p.orders) c.problem-problem.ensures.value) c.requires.0.1 c.index-orders-failed.is in
    let now = c.at-at.ensures ∙ ap (λ (p : ProblemValue). p.at) c.problem-problem.ensures.value in
    failed_first net problem c.args.failed wagon wanted free stands c.tables-tables.result.now c.at-at.result c.order-order.result.now c.tables-tables.ensures now c.order-order.ensures c.requires.1

pub returns : goal.returns
returns c =
    let net = c.args.planned.now.network in
    let problem = c.args.planned.now.problem in
    let wagon = c.index-wagons-failed.result in
    let wanted = c.index-orders-failed.result in
    let free : slice_get problem.wagons c.args.failed.pair.0 ≡ Some wagon = standing c.wagons.result.now problem.wagons c.args.failed.pair.0 wagon (c.wagons.ensures.wagons ∙ ap (λ (p : ProblemValue). p.wagons) c.problem-problem.ensures.value) c.requires.0.0 c.index-wagons-failed.is in
    let stands : slice_get problem.orders c.args.failed.pair.1 ≡ Some wanted = standing c.orders.result.now problem.orders c.args.failed.pair.1 wanted (c.orders.ensures.orders ∙ ap (λ (p : ProblemValue). p.orders) c.problem-problem.ensures.value) c.requires.0.1 c.index-orders-failed.is in
    let now = c.at-at.ensures ∙ ap (λ (p : ProblemValue). p.at) c.problem-problem.ensures.value in
    let first = failed_first net problem c.args.failed wagon wanted free stands c.tables-tables.result.now c.at-at.result c.order-order.result.now c.tables-tables.ensures now c.order-order.ensures c.requires.1 in
    on_ok_weaker c.push_test_line.result (failed_added net problem c.args.failed wagon wanted free stands c.args.form.now.style (names_of c.args.form.now) c.tables-tables.result.now c.at-at.result c.order-order.result.now _ _ c.tables-tables.ensures now c.order-order.ensures first) c.push_test_line.ensures
