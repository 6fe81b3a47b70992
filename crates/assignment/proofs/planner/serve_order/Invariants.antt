use Rattle.assignment.specs.inner.State.{kept}
use Rattle.assignment.specs.inner.Taken.{HasTaken}
use Rattle.assignment.specs.inner.Search.{HasRoom}
use Rattle.assignment.proofs.planner.serve_order.Given as goal

abbrev pub invariant-units : goal.invariant-units
invariant-units l = record {
  taken : HasTaken l.fn.state l.state l.j l._unit;
  room : HasRoom (kept l.state) l.search;
}
