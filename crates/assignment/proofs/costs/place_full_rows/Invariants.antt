use Rattle.assignment.specs.inner.Costs.{AreColumnsOf, cost_two}
use Rattle.assignment.specs.inner.Groups.{group_table}
use Rattle.assignment.proofs.costs.place_full_rows.Given as goal

abbrev pub invariant-orders : goal.invariant-orders
invariant-orders l = AreColumnsOf (group_table l.cells l.first) (cost_two (group_table l.cells l.first) l.g l.j) l.costs l.v l.nearest
