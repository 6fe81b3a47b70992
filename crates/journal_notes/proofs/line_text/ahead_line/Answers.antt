use Rattle.std.proofs.Common.{codes, refl, string_bytes, ap, ◌∙◌}
use Rattle.std.proofs.lemmas.Result.{IfOk-weaker}
use Rattle.journal_notes.specs.NoteLine.{ahead_members, object_text}
use Rattle.journal_notes.proofs.line_text.ahead_line.Goals as goal

pub returns : goal.returns
returns c =
    let moment = string_bytes c.in_ok-moment.moment in
    let message = c.args.message.now in
    IfOk-weaker c.ahead_text.result _ _
    (λ text is. record {
      members = ahead_members message moment;
      of_note = record { text = moment; moment = c.in_ok-moment.ensures.printed; whole = refl };
      whole = is ∙ ap (λ t. object_text c.args.file c.args.line (codes "ahead") (ahead_members message t)) c.deref.ensures;
    }) c.ahead_text.ensures
