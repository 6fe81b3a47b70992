use Rattle.std.proofs.Common.{◌≤◌, ◌-◌}
use Rattle.assignment.specs.inner.Taken.{HasTaken}
use Rattle.assignment.proofs.planner.serve_at_hand.Given as goal

abbrev pub invariant-units : goal.invariant-units
invariant-units l = record {
  taken : HasTaken l.initial.state l.state l.j l.served;
  limit : l.served ≤ l.lack;
}

abbrev pub decreases-units : goal.decreases-units
decreases-units l = l.lack - l.served
