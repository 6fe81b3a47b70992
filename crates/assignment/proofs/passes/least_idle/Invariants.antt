use Rattle.assignment.specs.inner.Passes.{IsLeastIdle}
use Rattle.assignment.proofs.passes.least_idle.Given as goal

abbrev pub invariant-loop-g : goal.invariant-loop-g
invariant-loop-g l = IsLeastIdle l.costs l.idle l.least l.g
