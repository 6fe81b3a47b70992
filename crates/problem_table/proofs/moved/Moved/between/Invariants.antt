use Rattle.std.proofs.Common.{◌≤◌, ◌+◌, length, take}
use Rattle.std.specs.Prelude.{vec_len, vec_capacity}
use Rattle.problem_table.specs.inner.Moved.{AreMoved}
use Rattle.problem_table.proofs.moved.Moved.between.Given as goal

-- Where the earlier orders so far stand; there is room for the rest.
abbrev pub invariant-loop-one : goal.invariant-loop-one
invariant-loop-one l = record {
  moved : AreMoved (take l.one-index l.earlier) l.orders l.positions.items l.kept;
  room : vec_len l.positions + length l.earlier ≤ vec_capacity l.positions + l.one-index;
}
