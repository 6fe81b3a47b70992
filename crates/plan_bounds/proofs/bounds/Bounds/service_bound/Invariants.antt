use Rattle.std.proofs.Common.{◌≡◌}
use Rattle.plan_bounds.specs.LeastSlack.{least_new_slack}
use Rattle.plan_bounds.proofs.bounds.Bounds.service_bound.Given as goal

abbrev pub invariant-loop-i : goal.invariant-loop-i
invariant-loop-i l = l.least ≡ least_new_slack l.self l.j l.i
