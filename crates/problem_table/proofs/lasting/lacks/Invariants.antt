use Rattle.std.proofs.Common.{◌≡◌, All, take}
use Rattle.cost_table.specs.Problem.{lacks_of}
use Rattle.wagons_and_orders.specs.WantedLimits.{IsLack}
use Rattle.problem_table.proofs.lasting.lacks.Given as goal

abbrev pub invariant-loop-wanted : goal.invariant-loop-wanted
invariant-loop-wanted l = (l.lacks.items ≡ lacks_of (take l.wanted-index l.orders)) × All IsLack l.lacks.items
