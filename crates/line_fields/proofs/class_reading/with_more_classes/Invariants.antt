use Rattle.std.proofs.Common.{◌≡◌, ◌+◌, [], ◌∷◌, length, drop}
use Rattle.serde_json.specs.View.{items_view}
use Rattle.line_fields.specs.Values.{each, class_from}
use Rattle.line_fields.specs.inner.Loops.{with_front}
use Rattle.line_fields.proofs.class_reading.with_more_classes.Given as goal

abbrev pub invariant-loop-item : goal.invariant-loop-item
invariant-loop-item l =
    (with_front l.classes (each class_from (items_view (drop l.item-index l.rest))) ≡ with_front (l.fn.first ∷ []) (each class_from (items_view l.rest))) × (length l.classes ≡ l.item-index + 1)
