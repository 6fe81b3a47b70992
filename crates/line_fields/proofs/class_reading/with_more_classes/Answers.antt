use Rattle.std.proofs.Common.{[], ◌∷◌, sym, ◌∙◌, arith, length-append}
use Rattle.std.proofs.lemmas.Result.{err_from_is_err_and}
use Rattle.serde_json.specs.View.{items_view}
use Rattle.line_fields.specs.Values.{each, class_from}
use Rattle.line_fields.specs.inner.Loops.{with_front}
use Rattle.line_fields.proofs.Items.{goes_on, stops, is_done}
use Rattle.line_fields.proofs.class_reading.with_more_classes.Goals as goal

pub returns-in_err-class : goal.returns-in_err-class
returns-in_err-class c =
    let total = with_front (c.args.first ∷ []) (each class_from (items_view c.args.rest.now)) in
    let p = err_from_is_err_and c.from_residual.result c.from_residual.ensures.1 in
    rw (p.1, p.2) (sym (stops class_from c.args.rest.now c.loop-item.item-index c.item-item.result c.loop-item.classes c.in_err-class.field-0.0 total c.loop-item-test.true c.item-item.is (sym c.code_from.ensures ∙ c.in_err-class.was) c.loop-item.invariant.0))

pub loop-item-preserved : goal.loop-item-preserved
loop-item-preserved c =
    let total = with_front (c.args.first ∷ []) (each class_from (items_view c.args.rest.now)) in
    let count = length-append c.loop-item.classes (c.in_ok-class.class ∷ []) in (
      rw c.push.ensures (goes_on class_from c.args.rest.now c.loop-item.item-index c.item-item.result c.loop-item.classes c.in_ok-class.class total c.loop-item-test.true c.item-item.is (sym c.code_from.ensures ∙ c.in_ok-class.was) c.loop-item.invariant.0),
      rw c.push.ensures (omega (arith, count, c.loop-item.invariant.1)),
    )

pub returns : goal.returns
returns c =
    let total = with_front (c.args.first ∷ []) (each class_from (items_view c.args.rest.now)) in
    sym (is_done class_from c.args.rest.now c.loop-item.item-index c.loop-item.classes total c.loop-item-test.false c.loop-item.invariant.0)
