use Rattle.std.proofs.Common.{◌≡◌, ◌≤◌, ◌*◌, take}
use Rattle.std.specs.List.{sum_by}
use Rattle.cost_table.specs.TableLimits.{max_cost}
use Rattle.cost_table.specs.Plan.{pair_cost}
use Rattle.cost_table.proofs.plan_cost.served_cost.Given as goal

abbrev pub invariant-loop-pair : goal.invariant-loop-pair
invariant-loop-pair l = (l.total ≡ sum_by (pair_cost l.cells) (take l.pair-index l.pairs)) × (l.total ≤ l.pair-index * max_cost)
