use Rattle.std.proofs.Common.{codes, refl, string_bytes, ap, ◌∙◌}
use Rattle.std.proofs.lemmas.Result.{IfOk-weaker}
use Rattle.journal_notes.specs.NoteLine.{object_text, text_members}
use Rattle.journal_notes.proofs.line_text.past_line.Goals as goal

pub returns : goal.returns
returns c =
    let latest = string_bytes c.in_ok-latest.latest in
    let order = c.args.order.now in
    IfOk-weaker c.text_line.result _ _
    (λ text is. record {
      members = text_members order.order (codes "latest") latest;
      of_note = record { latest = latest; moment = c.in_ok-latest.ensures.printed; whole = refl };
      whole = is ∙ ap (λ t. object_text c.args.file c.args.line (codes "past") (text_members order.order (codes "latest") t)) c.deref.ensures;
    }) c.text_line.ensures
