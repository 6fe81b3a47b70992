use Rattle.std.proofs.Common.{ap, arith, length}
use Rattle.cost_table.specs.Problem.{ProblemValue}
use Rattle.plan_reasons.proofs.OrderCounts.{AllZip-there_more}
use Rattle.plan_reasons.specs.Reasons.{AreCounts}
use Rattle.plan_reasons.proofs.counts_by_order.order_counts.Goals as goal

pub loop-j-preserved : goal.loop-j-preserved
loop-j-preserved c =
    let net = c.args.planned.now.network in
    let problem = c.args.planned.now.problem in
    AllZip-there_more (λ wanted passed. AreCounts net problem.at problem.wagons wanted.order passed) problem.orders c.loop-j.counts.items c.push.new.self.items c.loop-j.j c.in_ok-counts.field-0
    (omega (arith, c.loop-j-test.true, ap length c.orders-j-end.ensures.orders, ap (λ (p : ProblemValue). length p.orders) c.problem.ensures.value)) c.loop-j.invariant c.in_ok-counts.ensures c.in_ok-push.ensures.items
