use Rattle.std.proofs.Common.{arith, sym, ◌∙◌, ap}
use Rattle.std.proofs.lemmas.Result.{err_from_is_err_and}
use Rattle.serde_json.specs.View.{items_view}
use Rattle.line_fields.specs.Fields.{in_field}
use Rattle.line_fields.specs.Values.{each}
use Rattle.line_fields.proofs.Items.{in_field_ok, in_field_err, goes_on, stops, is_done}
use Rattle.line_fields.proofs.Bounds.{each_in_place}
use Rattle.line_fields.proofs.lists.each.Goals as goal

pub returns-in_err-read-clause-meaning : goal.returns-in_err-read-clause-meaning
returns-in_err-read-clause-meaning g c =
    let read = g.K.ItemKind.meaning c.args.kind.now in
    let total = each read (items_view c.args.items.now) in
    let p = err_from_is_err_and c.from_residual-in_err-read.result c.from_residual-in_err-read.ensures.1 in
    rw (p.1, p.2) (λ _. in_field_err c.args.field c.read.result c.in_err-read.field-0.0 total c.in_err-read.ensures (λ f is. stops read c.args.items.now c.loop-item.item-index c.item-item.result c.loop-item.found.items f total c.loop-item-test.true c.item-item.is (sym c.read.ensures ∙ is) c.loop-item.invariant.so_far))

pub loop-item-preserved : goal.loop-item-preserved
loop-item-preserved g c =
    let read = g.K.ItemKind.meaning c.args.kind.now in
    record {
      so_far = rw c.push_reserved.ensures.items (goes_on read c.args.items.now c.loop-item.item-index c.item-item.result c.loop-item.found.items c.in_ok-read.read (each read (items_view c.args.items.now)) c.loop-item-test.true c.item-item.is (sym c.read.ensures ∙ in_field_ok c.args.field c.read.result c.in_ok-read.read c.in_ok-read.ensures) c.loop-item.invariant.so_far);
      count = omega arith;
      room = omega arith;
    }

pub returns-clause-meaning : goal.returns-clause-meaning
returns-clause-meaning g c =
    let read = g.K.ItemKind.meaning c.args.kind.now in
    ap (in_field c.args.field) (is_done read c.args.items.now c.loop-item.item-index c.loop-item.found.items (each read (items_view c.args.items.now)) c.loop-item-test.false c.loop-item.invariant.so_far)

pub returns-clause-in_place : goal.returns-clause-in_place
returns-clause-in_place g c =
    let read = g.K.ItemKind.meaning c.args.kind.now in
    each_in_place read c.args.items.now c.loop-item.found.items (is_done read c.args.items.now c.loop-item.item-index c.loop-item.found.items (each read (items_view c.args.items.now)) c.loop-item-test.false c.loop-item.invariant.so_far)
