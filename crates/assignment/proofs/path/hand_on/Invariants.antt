use Rattle.std.proofs.Common.{◌≡◌}
use Rattle.assignment.specs.inner.State.{kept, orders_of}
use Rattle.assignment.proofs.HandOn.{IsHandingOn}
use Rattle.assignment.proofs.path.hand_on.Given as goal

abbrev pub invariant-loop-index : goal.invariant-loop-index
invariant-loop-index l = record {
  handing : IsHandingOn (kept l.initial.state) l.search (orders_of l.state.order_of.items) l.fn.wagon l.wagon l.index;
  same : l.state ≡ record l.initial.state { order_of = l.state.order_of };
}

abbrev pub decreases-loop-index : goal.decreases-loop-index
decreases-loop-index l = l.index
