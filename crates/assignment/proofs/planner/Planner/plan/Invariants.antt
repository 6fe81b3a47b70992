use Rattle.std.proofs.Common.{◌≡◌, take}
use Rattle.assignment.specs.inner.State.{IsState, AreCounted, kept}
use Rattle.assignment.specs.inner.Search.{HasRoom}
use Rattle.assignment.specs.inner.Sequence.{taken_in}
use Rattle.assignment.proofs.planner.Planner.plan.Given as goal

abbrev pub invariant-orders : goal.invariant-orders
invariant-orders l = record {
  state : IsState l.state;
  room : HasRoom (kept l.state) l.search;
  counted : AreCounted (kept l.state) (taken_in l.state.cells.now (take l.entry-index l.entry-items));
  table : l.state.cells.now ≡ l.initial.state.cells.now;
}
