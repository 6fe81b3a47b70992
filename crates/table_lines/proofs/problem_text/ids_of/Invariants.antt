use Rattle.std.proofs.Common.{◌≡◌, take}
use Rattle.cost_table.specs.Problem.{order_names}
use Rattle.table_lines.proofs.problem_text.ids_of.Given as goal

abbrev pub invariant-loop-wanted : goal.invariant-loop-wanted
invariant-loop-wanted l = l.ids.items ≡ order_names (take l.wanted-index l.orders)
