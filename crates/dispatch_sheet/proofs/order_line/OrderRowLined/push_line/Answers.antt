use Rattle.std.proofs.Common.{ℕ, ap, ◌∙◌, string_bytes, subst}
use Rattle.std.proofs.lemmas.Result.{on_ok_weaker}
use Rattle.move_messages.specs.Order.{Order}
use Rattle.reply_texts.specs.Words.{IsMomentWord}
use Rattle.reply_texts.specs.Lines.{Adds}
use Rattle.dispatch_sheet.proofs.Moments.{order_line}
use Rattle.dispatch_sheet.proofs.order_line.OrderRowLined.push_line.Goals as goal

pub returns : goal.returns
returns c =
    let by_order = c.latest.ensures ∙ ap (λ (order : Order). order.latest) c.text.ensures in
    let moment = subst (λ (n : ℕ). Adds (IsMomentWord n) (string_bytes c.push_order_front.new.text) (string_bytes c.push_moment.new.text)) by_order c.in_ok-push_moment.ensures in
    on_ok_weaker c.push_order_back.result (λ last. order_line c.args.self.now _ _ _ _ c.in_ok-push_order_front.ensures moment last) c.push_order_back.ensures
