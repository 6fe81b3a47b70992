use Rattle.std.proofs.Common.{◌≡◌, take}
use Rattle.table_lines.proofs.problem_text.lacks_of.Given as goal

abbrev pub invariant-loop-j : goal.invariant-loop-j
invariant-loop-j l = l.lacks.items ≡ take l.j l.cells.lacks
