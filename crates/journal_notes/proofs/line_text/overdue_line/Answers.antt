use Rattle.std.proofs.Common.{codes, refl, string_bytes, ap, ◌∙◌}
use Rattle.std.proofs.lemmas.Result.{IfOk-weaker}
use Rattle.journal_notes.specs.NoteLine.{overdue_members, object_text}
use Rattle.journal_notes.proofs.line_text.overdue_line.Goals as goal

pub returns : goal.returns
returns c =
    let latest = string_bytes c.in_ok-latest.latest in
    let order = c.args.order.now in
    IfOk-weaker c.overdue_text.result _ _
    (λ text is. record {
      members = overdue_members order latest;
      of_note = record { latest = latest; moment = c.in_ok-latest.ensures.printed; whole = refl };
      whole = is ∙ ap (λ t. object_text c.args.file c.args.line (codes "overdue") (overdue_members order t)) c.deref.ensures;
    }) c.overdue_text.ensures
