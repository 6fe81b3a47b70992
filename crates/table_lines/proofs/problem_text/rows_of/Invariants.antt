use Rattle.std.proofs.Common.{◌≡◌, map, take}
use Rattle.table_lines.proofs.problem_text.rows_of.Given as goal

abbrev pub invariant-loop-i : goal.invariant-loop-i
invariant-loop-i l = map (λ row. row.items) l.rows.items ≡ take l.i l.cells.costs
