use Rattle.std.proofs.Common.{◌≡◌, take, drop}
use Rattle.cost_table.specs.DistinctNames.{first_repeated, repeated_after}
use Rattle.cost_table.specs.Problem.{order_names}
use Rattle.cost_table.proofs.problem.repeated_order.Given as goal

abbrev pub invariant-loop-k : goal.invariant-loop-k
invariant-loop-k l = repeated_after (take l.k (order_names l.orders)) (drop l.k (order_names l.orders)) ≡ first_repeated (order_names l.orders)
