use Rattle.std.proofs.Common.{get_or}
use Rattle.assignment.specs.inner.Passes.{IsNearest}
use Rattle.assignment.proofs.passes.nearest.Given as goal

abbrev pub invariant-loop-g : goal.invariant-loop-g
invariant-loop-g l = IsNearest (λ k. get_or l.ahead k 0) l.onward l.g
