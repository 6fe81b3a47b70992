use Rattle.std.proofs.Common.{◌≡◌, ◌≤◌, drop, length}
use Rattle.std.specs.Prelude.{vec_len, vec_capacity}
use Rattle.serde_json.specs.View.{items_view}
use Rattle.line_fields.specs.Values.{each}
use Rattle.line_fields.specs.inner.Loops.{with_front}
use Rattle.line_fields.proofs.lists.each.Given as goal

-- What is read so far and the rest are what all are read as; there is room for the rest.
abbrev pub invariant-loop-item : goal.invariant-loop-item
invariant-loop-item g l = record {
  so_far : with_front l.found.items (each (g.K.ItemKind.meaning l.kind) (items_view (drop l.item-index l.items))) ≡ each (g.K.ItemKind.meaning l.kind) (items_view l.items);
  count : vec_len l.found ≡ l.item-index;
  room : length l.items ≤ vec_capacity l.found;
}
