use Rattle.std.proofs.Common.{◌≡◌, ◌≤◌, All, take}
use Rattle.cost_table.specs.TableLimits.{max_cost}
use Rattle.cost_table.specs.Problem.{penalties_of}
use Rattle.problem_table.proofs.lasting.penalties.Given as goal

abbrev pub invariant-loop-wanted : goal.invariant-loop-wanted
invariant-loop-wanted l = (l.penalties.items ≡ penalties_of (take l.wanted-index l.orders)) × All (λ penalty. penalty ≤ max_cost) l.penalties.items
