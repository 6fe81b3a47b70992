use Rattle.std.proofs.Common.{◌≡◌, ◌≤◌, ◌+◌, ◌++◌, length, take}
use Rattle.std.specs.Prelude.{vec_len, vec_capacity}
use Rattle.problem_table.specs.inner.Moved.{moved_cells}
use Rattle.problem_table.proofs.moved.move_cells.Given as goal

-- The cells so far are moved; there is room for the rest.
abbrev pub invariant-loop-cell : goal.invariant-loop-cell
invariant-loop-cell l = record {
  cells : l.entries.items ≡ l.initial.entries.items ++ moved_cells l.moved.positions.items l.moved.kept (take l.cell-index l.row);
  room : vec_len l.entries + length l.row ≤ vec_capacity l.entries + l.cell-index;
}
