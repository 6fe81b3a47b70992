use Rattle.std.proofs.Common.{◌≡◌, take}
use Rattle.exact_costs.proofs.changed_table.lacks.Given as goal

abbrev pub invariant-loop-j : goal.invariant-loop-j
invariant-loop-j l = l.lacks.items ≡ take l.j l.cells.lacks
