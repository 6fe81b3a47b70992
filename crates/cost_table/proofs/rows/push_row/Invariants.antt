use Rattle.std.proofs.Common.{◌≡◌, ◌+◌, ◌≤◌, ◌++◌, drop, length}
use Rattle.std.specs.Prelude.{vec_len, vec_capacity}
use Rattle.cost_table.specs.TableRows.{cells_of}
use Rattle.cost_table.proofs.rows.push_row.Given as goal

-- The cells so far and those of the rest are those of the row; there is room for the rest.
abbrev pub invariant-loop-order : goal.invariant-loop-order
invariant-loop-order l = record {
  so_far : l.entries.items ++ cells_of l.order (drop l.order l.numbers) ≡ l.initial.entries.items ++ cells_of 0 l.numbers;
  room : vec_len l.entries + length l.numbers ≤ vec_capacity l.entries + l.order;
}
