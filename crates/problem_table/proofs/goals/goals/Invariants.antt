use Rattle.std.proofs.Common.{◌≡◌, take}
use Rattle.problem_table.specs.inner.Goals.{goals_from}
use Rattle.problem_table.proofs.goals.goals.Given as goal

abbrev pub invariant-loop-j : goal.invariant-loop-j
invariant-loop-j l = l.goals.items ≡ goals_from l.network l.class l.first (take l.j l.orders)
