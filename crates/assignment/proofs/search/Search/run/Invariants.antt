use Rattle.std.proofs.Common.{◌≡◌, ◌-◌, length}
use Rattle.cost_table.specs.Table.{order_count}
use Rattle.assignment.specs.inner.State.{IsHead, IsState, kept}
use Rattle.assignment.proofs.Running.{IsRunning}
use Rattle.assignment.proofs.search.Search.run.Given as goal

abbrev pub invariant-settling : goal.invariant-settling
invariant-settling l = record {
  state : IsState l.state;
  same : l.state ≡ record l.initial.state { bound = l.state.bound; nearest = l.state.nearest };
  running : IsRunning (kept l.initial.state) l.self l.j l.next;
  head : IsHead l.initial.state l.self.end.wagon;
}

abbrev pub decreases-settling : goal.decreases-settling
decreases-settling l = order_count l.initial.state.cells.now - length l.self.orders.items
