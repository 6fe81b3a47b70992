use Rattle.std.proofs.Common.{◌+◌, ℕ, get_or, min}
use Rattle.assignment.specs.inner.Passes.{IsNearest, through}
use Rattle.assignment.proofs.Passing.{IsPassed}
use Rattle.assignment.proofs.passes.relax.Given as goal

abbrev pub invariant-loop-g : goal.invariant-loop-g
invariant-loop-g l =
    let number : ℕ → ℕ = λ k. min (get_or l.initial.ahead k 0) (through (l.distance + 1) l.price (get_or l.costs k 0) (get_or l.u k 0)) in
    record {
      ahead : IsPassed number l.initial.ahead l.ahead l.g;
      nearest : IsNearest number l.onward l.g;
    }
