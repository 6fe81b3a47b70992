use Rattle.std.proofs.Common.{◌≡◌, ◌∙◌, ◌-◌, ℕ, Some, ap, ap₂, arith}
use Rattle.std.specs.Prelude.{slice_get}
use Rattle.move_messages.specs.Order.{Order}
use Rattle.cost_table.specs.Plan.{serves}
use Rattle.cost_table.specs.Problem.{ProblemValue}
use Rattle.cost_table.specs.Table.{Table, lack_at}
use Rattle.plan_reasons.specs.Reasons.{AreCounts}
use Rattle.plan_table.specs.ListOf.{reason_of}
use Rattle.plan_reasons.proofs.Arrivals.{order_count-table, standing}
use Rattle.plan_table.proofs.Listed.{AllZip-both, AllZip-length}
use Rattle.plan_table.proofs.listing.shortfall_of.Goals as goal

pub passed_at-passed-requires : goal.passed_at-passed-requires
passed_at-passed-requires c =
    let net = c.args.planned.now.network in
    let problem = c.args.planned.now.problem in
    omega (arith, c.requires.order, AllZip-length (λ wanted passed. AreCounts net problem.at problem.wagons wanted.order passed) problem.orders c.args.counts.now c.requires.counts)

pub lack-requires : goal.lack-requires
lack-requires c =
    rw c.cells.ensures (omega (arith, c.requires.order, order_count-table c.args.planned.now.network c.args.planned.now.problem c.args.planned.now.priced.table c.problem.ensures.table))

pub returns : goal.returns
returns c =
    let net = c.args.planned.now.network in
    let problem = c.args.planned.now.problem in
    let j = c.args.j in
    let wanted = c.index-orders-j.result in
    let order : slice_get problem.orders j ≡ Some wanted = standing c.orders.result.now problem.orders j wanted (c.orders.ensures.orders ∙ ap (λ (p : ProblemValue). p.orders) c.problem.ensures.value) c.requires.order c.index-orders-j.is in
    let same = c.order-order.ensures in
    let gets = c.given-gets.ensures ∙ ap (serves j) (c.pairs.ensures.pairs ∙ c.plan.ensures.value) in
    record {
      wanted = wanted;
      order = order;
      name = c.id.ensures ∙ ap (λ (o : Order). o.id) same;
      place = c.place.ensures ∙ ap (λ (o : Order). o.place) same;
      penalty = c.penalty.ensures.value ∙ ap (λ (o : Order). o.penalty) same;
      gets = gets;
      missing = c.saturating_sub.ensures ∙ ap₂ (λ (a b : ℕ). a - b) (c.from.ensures ∙ c.lack.ensures.value ∙ ap (λ (t : Table). lack_at t j) c.cells.ensures) gets;
      passed = c.passed_at-passed.result;
      counted = AllZip-both (λ wanted passed. AreCounts net problem.at problem.wagons wanted.order passed) problem.orders c.args.counts.now j wanted c.passed_at-passed.result c.requires.counts order c.passed_at-passed.ensures;
      reason = c.reason_of.ensures ∙ ap₂ (λ (at latest : ℕ). reason_of at latest c.given-gets.result c.passed_at-passed.result) (c.at.ensures ∙ ap (λ (p : ProblemValue). p.at) c.problem-2.ensures.value) (c.latest.ensures ∙ ap (λ (o : Order). o.latest) same) ∙ ap (λ (g : ℕ). reason_of problem.at wanted.order.latest g c.passed_at-passed.result) gets;
    }
