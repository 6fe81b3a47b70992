use Rattle.std.proofs.Common.{◌-◌, ◌≤◌}
use Rattle.assignment.specs.inner.Costs.{AreColumnsOf, cost_before}
use Rattle.assignment.specs.inner.Groups.{group_table}
use Rattle.assignment.proofs.costs.Columns.new.Given as goal

abbrev pub invariant-groups : goal.invariant-groups
invariant-groups l = record {
  within : l.g ≤ l.count;
  columns : AreColumnsOf (group_table l.cells l.groups.first.items) (cost_before (group_table l.cells l.groups.first.items) l.g) l.costs.items l.v.items l.nearest.items;
}

abbrev pub decreases-groups : goal.decreases-groups
decreases-groups l = l.count - l.g
