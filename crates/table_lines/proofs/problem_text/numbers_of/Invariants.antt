use Rattle.std.proofs.Common.{◌≡◌, take}
use Rattle.cost_table.specs.Problem.{wagon_names}
use Rattle.table_lines.proofs.problem_text.numbers_of.Given as goal

abbrev pub invariant-loop-wagon : goal.invariant-loop-wagon
invariant-loop-wagon l = l.numbers.items ≡ wagon_names (take l.wagon-index l.wagons)
