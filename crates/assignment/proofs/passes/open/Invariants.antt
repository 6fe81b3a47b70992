use Rattle.std.specs.Prelude.{◌==◌}
use Rattle.std.proofs.Common.{cond, get_or}
use Rattle.assignment.proofs.Passing.{IsPassed}
use Rattle.assignment.proofs.passes.open.Given as goal

abbrev pub invariant-loop-g : goal.invariant-loop-g
invariant-loop-g l = IsPassed (λ k. cond (get_or l.idle k 0 == 4294967295) 4294967295 0) l.initial.ahead l.ahead l.g
