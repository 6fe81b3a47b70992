use Rattle.std.proofs.Common.{◌≡◌, ◌≤◌, ◌*◌, take}
use Rattle.std.specs.List.{sum_by}
use Rattle.cost_table.specs.inner.Spared.{pair_penalty}
use Rattle.cost_table.proofs.plan_cost.spared_cost.Given as goal

abbrev pub invariant-loop-pair : goal.invariant-loop-pair
invariant-loop-pair l = (l.total ≡ sum_by (pair_penalty l.cells) (take l.pair-index l.pairs)) × (l.total ≤ l.pair-index * 18_446_744_073_709_551_615)
