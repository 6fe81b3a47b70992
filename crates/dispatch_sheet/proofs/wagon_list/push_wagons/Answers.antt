use Rattle.std.proofs.Common.{ℕ, List, ◌++◌, map, take, sym, ap, ◌∙◌, string_bytes, arith}
use Rattle.dispatch_sheet.specs.inner.Pushed.{listed}
use Rattle.dispatch_sheet.proofs.Lists.{later, listed-more, later-more}
use Rattle.reply_texts.proofs.Lines.{map-taken_more}
use Rattle.dispatch_sheet.proofs.wagon_list.push_wagons.Goals as goal

pub loop-number-preserved : goal.loop-number-preserved
loop-number-preserved c =
    let i = c.loop-number.number-index in
    let marked = λ (number : List ℕ). number ++ c.args.mark.now in
    let before = map marked (take i c.args.wagons.now) in
    let wagon = marked c.number-item.result in
    let next = sym (map-taken_more marked c.args.wagons.now i c.number-item.result c.number-item.result (omega arith) c.number-item.is) in
    record {
      text =
          c.in_ok-push_wagon.ensures {u = tt}
          ∙ listed-more c.args.earlier c.loop-number.earlier before wagon (string_bytes c.args.text.now) (string_bytes c.loop-number.text) c.loop-number.invariant.text c.loop-number.invariant.earlier
          ∙ ap (λ xs. string_bytes c.args.text.now ++ listed c.args.earlier xs) next;
      earlier = later-more c.args.earlier before wagon ∙ ap (later c.args.earlier) next;
    }
