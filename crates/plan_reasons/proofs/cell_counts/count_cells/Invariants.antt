use Rattle.std.proofs.Common.{take}
use Rattle.plan_reasons.specs.inner.Tallied.{AreMore, below_in_row}
use Rattle.plan_reasons.proofs.cell_counts.count_cells.Given as goal

abbrev pub invariant-loop-cell : goal.invariant-loop-cell
invariant-loop-cell l = AreMore (below_in_row (take l.cell-index l.row) l.limits) l.initial.counts l.counts
