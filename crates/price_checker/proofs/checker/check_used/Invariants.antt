use Rattle.std.proofs.Common.{◌≡◌, None}
use Rattle.price_checker.specs.Faults.{first_below, spent_at}
use Rattle.price_checker.proofs.checker.check_used.Given as goal

-- none of the pairs so far is spent
abbrev pub invariant-loop-k : goal.invariant-loop-k
invariant-loop-k l = first_below l.k (spent_at l.cells l.pairs) ≡ None
