use Rattle.std.proofs.Common.{◌+◌, ◌-◌, length}
use Rattle.cost_table.specs.TableRows.{row_at}
use Rattle.assignment.specs.inner.Costs.{AreColumnsOf, cost_within}
use Rattle.assignment.specs.inner.Groups.{group_table}
use Rattle.assignment.proofs.costs.place_row.Given as goal

abbrev pub invariant-loop-cell : goal.invariant-loop-cell
invariant-loop-cell l = AreColumnsOf (group_table l.cells l.first) (cost_within (group_table l.cells l.first) l.g l.cell-index) l.costs l.v l.nearest

-- the rest's cells stand behind the first ones
abbrev pub invariant-loop-next_cell : goal.invariant-loop-next_cell
invariant-loop-next_cell l =
    AreColumnsOf (group_table l.cells l.first) (cost_within (group_table l.cells l.first) l.g (length (row_at (group_table l.cells l.first) l.g) - length l.next_cell-items + l.next_cell-index)) l.costs l.v l.nearest
