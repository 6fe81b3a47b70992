use Rattle.std.proofs.Common.{◌≡◌, ◌≤◌, ◌+◌, length, take}
use Rattle.std.specs.Prelude.{vec_len, vec_capacity}
use Rattle.std.specs.List.{filter_map}
use Rattle.operating_db.specs.inner.Walks.{wanted_at}
use Rattle.operating_db.proofs.lists.wanted_among.Given as goal

-- The orders of the indices so far that lack a wagon; there is room for the rest.
abbrev pub invariant-loop-index : goal.invariant-loop-index
invariant-loop-index l = record {
  waiting : l.wanted.items ≡ filter_map (wanted_at l.rows) (take l.index-index l.indices);
  room : vec_len l.wanted + length l.indices ≤ vec_capacity l.wanted + l.index-index;
}
