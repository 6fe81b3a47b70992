use Rattle.std.proofs.Common.{◌≡◌, take}
use Rattle.table_lines.proofs.problem_text.penalties_of.Given as goal

abbrev pub invariant-loop-j : goal.invariant-loop-j
invariant-loop-j l = l.penalties.items ≡ take l.j l.cells.penalties
