use Rattle.std.proofs.Common.{take}
use Rattle.std.specs.List.{AllZip}
use Rattle.plan_reasons.specs.Reasons.{AreCounts}
use Rattle.plan_reasons.proofs.counts_by_order.order_counts.Given as goal

abbrev pub invariant-loop-j : goal.invariant-loop-j
invariant-loop-j l = AllZip (λ wanted passed. AreCounts l.planned.network l.planned.problem.at l.planned.problem.wagons wanted.order passed) (take l.j l.planned.problem.orders) l.counts.items
