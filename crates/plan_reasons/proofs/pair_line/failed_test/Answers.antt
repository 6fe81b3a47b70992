use Rattle.std.proofs.Common.{◌≡◌, ℕ, true, false, Some, sym, ◌∙◌, subst, ap}
use Rattle.std.specs.Prelude.{slice_get}
use Rattle.move_messages.specs.Order.{Order}
use Rattle.line_network.specs.Network.{NetworkValue}
use Rattle.cost_table.specs.Problem.{ProblemValue}
use Rattle.plan_reasons.specs.Reasons.{IsCheaper}
use Rattle.plan_reasons.proofs.Arrivals.{standing}
use Rattle.plan_reasons.proofs.Passing.{cheaper_passing}
use Rattle.plan_reasons.proofs.PairFields.{failed_found}
use Rattle.plan_reasons.proofs.pair_line.failed_test.Goals as goal

pub first_failed-requires : goal.first_failed-requires
first_failed-requires c = λ cheaper.
    let net = c.args.planned.now.network in
    let problem = c.args.planned.now.problem in
    let wagon = c.index-wagons-pair.result in
    let wanted = c.index-orders-pair.result in
    let free : slice_get problem.wagons c.args.pair.0 ≡ Some wagon = standing c.wagons.result.now problem.wagons c.args.pair.0 wagon (c.wagons.ensures.wagons ∙ ap (λ (p : ProblemValue). p.wagons) c.problem-problem.ensures.value) c.requires.0.0 c.index-wagons-pair.is in
    let stands : slice_get problem.orders c.args.pair.1 ≡ Some wanted = standing c.orders.result.now problem.orders c.args.pair.1 wanted (c.orders.ensures.orders ∙ ap (λ (p : ProblemValue). p.orders) c.problem-problem.ensures.value) c.requires.0.1 c.index-orders-pair.is in
    let led = subst (λ (n : NetworkValue). IsCheaper n c.at-at.result wagon c.order-order.result.now) c.tables-tables.ensures cheaper in
    let here = subst (λ (a : ℕ). IsCheaper net a wagon c.order-order.result.now) (c.at-at.ensures ∙ ap (λ (p : ProblemValue). p.at) c.problem-problem.ensures.value) led in
    let there = subst (λ (o : Order). IsCheaper net problem.at wagon o) c.order-order.ensures here in
    let passes = cheaper_passing net problem c.args.planned.now.priced.table c.problem-problem.ensures.table c.args.pair.0 c.args.pair.1 wagon wanted free stands there in
    let no : true ≡ false = sym passes ∙ c.requires.1 in
    cc

pub returns : goal.returns
returns c =
    let net = c.args.planned.now.network in
    let problem = c.args.planned.now.problem in
    let wagon = c.index-wagons-pair.result in
    let wanted = c.index-orders-pair.result in
    let free : slice_get problem.wagons c.args.pair.0 ≡ Some wagon = standing c.wagons.result.now problem.wagons c.args.pair.0 wagon (c.wagons.ensures.wagons ∙ ap (λ (p : ProblemValue). p.wagons) c.problem-problem.ensures.value) c.requires.0.0 c.index-wagons-pair.is in
    let stands : slice_get problem.orders c.args.pair.1 ≡ Some wanted = standing c.orders.result.now problem.orders c.args.pair.1 wanted (c.orders.ensures.orders ∙ ap (λ (p : ProblemValue). p.orders) c.problem-problem.ensures.value) c.requires.0.1 c.index-orders-pair.is in
    let now = c.at-at.ensures ∙ ap (λ (p : ProblemValue). p.at) c.problem-problem.ensures.value in
    failed_found net problem (record { pair = c.args.pair; test = c.first_failed.result }) wagon wanted free stands c.tables-tables.result.now c.at-at.result c.order-order.result.now c.tables-tables.ensures now c.order-order.ensures c.first_failed.ensures
