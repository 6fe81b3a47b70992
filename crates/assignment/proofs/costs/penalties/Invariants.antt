use Rattle.std.proofs.Common.{◌≡◌, ℕ, ◌<◌, get_or, length}
use Rattle.cost_table.specs.Table.{penalty_at, order_count}
use Rattle.assignment.proofs.costs.penalties.Given as goal

abbrev pub invariant-orders : goal.invariant-orders
invariant-orders l = record {
  count : length l.penalties.items ≡ order_count l.cells;
  each : (j : ℕ) → j < l.j → get_or l.penalties.items j 0 ≡ penalty_at l.cells j;
}
