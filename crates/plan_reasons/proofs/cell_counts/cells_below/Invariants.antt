use Rattle.std.proofs.Common.{take}
use Rattle.cost_table.specs.Table.{order_count}
use Rattle.cost_table.specs.TableRows.{all_rows}
use Rattle.plan_reasons.specs.inner.Tallied.{AreNumbers, cells_below}
use Rattle.plan_reasons.proofs.cell_counts.cells_below.Given as goal

abbrev pub invariant-loop-i : goal.invariant-loop-i
invariant-loop-i l = AreNumbers (order_count l.cells) (cells_below (take l.i (all_rows l.cells)) l.limits) l.counts.items
