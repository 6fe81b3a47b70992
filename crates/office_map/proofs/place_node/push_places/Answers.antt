use Rattle.std.proofs.Common.{◌+◌, take, sym, string_bytes, arith}
use Rattle.reply_texts.proofs.Lines.{Adds-line, Adds-lines-along, taken_more}
use Rattle.office_map.specs.Places.{IsPlaceOf}
use Rattle.office_map.proofs.place_node.push_places.Goals as goal

pub loop-place-preserved : goal.loop-place-preserved
loop-place-preserved c =
    let is_place = IsPlaceOf c.args.named.now c.args.wagons.now c.args.orders.now in
    let places = c.args.places.now in
    let i = c.loop-place.place-index in
    let place = c.place-item.result in
    Adds-lines-along is_place _ (take (i + 1) places) _ _ (sym (taken_more places i place place (omega arith) c.place-item.is)) (Adds-line is_place (take i places) place (string_bytes c.args.text.now) (string_bytes c.loop-place.text) _ c.loop-place.invariant (c.in_ok-push_place.ensures {u = tt}))
