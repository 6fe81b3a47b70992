use Rattle.std.proofs.Common.{◌≡◌, take}
use Rattle.exact_costs.proofs.changed_table.penalties.Given as goal

abbrev pub invariant-loop-j : goal.invariant-loop-j
invariant-loop-j l = l.penalties.items ≡ take l.j l.cells.penalties
