use Rattle.std.proofs.Common.{◌≡◌, None}
use Rattle.price_checker.specs.Faults.{first_below, penalty_gap}
use Rattle.price_checker.proofs.checker.check_penalties.Given as goal

abbrev pub invariant-loop-j : goal.invariant-loop-j
invariant-loop-j l = first_below l.j (penalty_gap l.cells l.v) ≡ None
