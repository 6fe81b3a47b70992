use Rattle.std.proofs.Common.{get_or}
use Rattle.assignment.proofs.Passing.{IsPassed}
use Rattle.assignment.proofs.passes.spread.Given as goal

abbrev pub invariant-loop-i : goal.invariant-loop-i
invariant-loop-i l = IsPassed (λ k. get_or l.numbers (get_or l.groups k 0) 0) l.initial.wide l.wide l.i
