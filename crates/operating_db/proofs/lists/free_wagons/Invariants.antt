use Rattle.std.proofs.Common.{◌≡◌, ◌≤◌, ◌+◌, length, take}
use Rattle.std.specs.Prelude.{vec_len, vec_capacity}
use Rattle.operating_db.specs.Problem.{free_wagons}
use Rattle.operating_db.proofs.lists.free_wagons.Given as goal

-- The free wagons of the rows so far; there is room for the rest.
abbrev pub invariant-loop-index : goal.invariant-loop-index
invariant-loop-index l = record {
  free : l.wagons.items ≡ free_wagons (take l.index l.rows);
  room : vec_len l.wagons + length l.rows ≤ vec_capacity l.wagons + l.index;
}
