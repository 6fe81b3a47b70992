use Rattle.std.proofs.Common.{◌≡◌, take, drop}
use Rattle.cost_table.specs.DistinctNames.{first_repeated, repeated_after}
use Rattle.cost_table.specs.Problem.{wagon_names}
use Rattle.cost_table.proofs.problem.repeated_wagon.Given as goal

abbrev pub invariant-loop-k : goal.invariant-loop-k
invariant-loop-k l = repeated_after (take l.k (wagon_names l.wagons)) (drop l.k (wagon_names l.wagons)) ≡ first_repeated (wagon_names l.wagons)
