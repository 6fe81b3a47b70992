use Rattle.std.proofs.Common.{take}
use Rattle.cost_table.specs.Plan.{serves}
use Rattle.plan_reasons.specs.inner.Tallied.{AreNumbers}
use Rattle.plan_reasons.proofs.cell_counts.served.Given as goal

abbrev pub invariant-loop-pair : goal.invariant-loop-pair
invariant-loop-pair l = AreNumbers l.orders (λ j. serves j (take l.pair-index l.pairs)) l.counts.items
