use Rattle.std.proofs.Common.{ℕ, List, ◌++◌, ap, ◌∙◌, string_bytes, subst}
use Rattle.std.specs.Prelude.{count_by}
use Rattle.std.proofs.lemmas.Result.{on_ok_weaker}
use Rattle.rail_codes.specs.Moment.{IsMomentText}
use Rattle.reply_texts.specs.Lines.{Adds}
use Rattle.office_map.specs.Orders.{is_promised_to, order_back}
use Rattle.office_map.proofs.OrderLines.{order_line}
use Rattle.office_map.proofs.order_lines.push_order_line.Goals as goal

pub returns : goal.returns
returns c =
    let moment = subst (λ (n : ℕ). Adds (IsMomentText n) (string_bytes c.push_order_front.new.text) (string_bytes c.push_moment.new.text)) c.latest.ensures c.in_ok-push_moment.ensures in
    let here = c.count_here.ensures ∙ ap (λ (id : List ℕ). count_by (is_promised_to id) c.args.wagons.now) c.id.ensures in
    on_ok_weaker c.push_order_back.result (λ last. order_line c.args.wagons.now c.args.order.now _ _ _ _ c.in_ok-push_order_front.ensures moment (last ∙ ap (λ (n : ℕ). string_bytes c.push_moment.new.text ++ order_back n) here)) c.push_order_back.ensures
