use Rattle.std.proofs.Common.{◌+◌, ◌-◌, get_or}
use Rattle.assignment.proofs.Passing.{IsPassed}
use Rattle.assignment.proofs.passes.raise.Given as goal

abbrev pub invariant-loop-i : goal.invariant-loop-i
invariant-loop-i l = IsPassed (λ k. get_or l.initial.prices k 0 + (l.end - get_or l.distances k 0)) l.initial.prices l.prices l.i
