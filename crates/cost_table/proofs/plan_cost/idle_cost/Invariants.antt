use Rattle.std.proofs.Common.{◌≡◌, ◌≤◌, ◌*◌}
use Rattle.cost_table.specs.Table.{penalty_at, lack_at}
use Rattle.cost_table.specs.Plan.{sum_below}
use Rattle.cost_table.proofs.plan_cost.idle_cost.Given as goal

abbrev pub invariant-loop-j : goal.invariant-loop-j
invariant-loop-j l = (l.total ≡ sum_below l.j (λ j. penalty_at l.cells j * lack_at l.cells j)) × (l.total ≤ l.j * 20_000_000_000)
