use Rattle.std.proofs.Common.{◌≡◌, map}
use Rattle.std.specs.List.{range_with_len}
use Rattle.cost_table.specs.Table.{cost_at}
use Rattle.table_lines.proofs.problem_text.row_of.Given as goal

abbrev pub invariant-loop-j : goal.invariant-loop-j
invariant-loop-j l = l.row.items ≡ map (cost_at l.cells l.i) (range_with_len 0 l.j)
