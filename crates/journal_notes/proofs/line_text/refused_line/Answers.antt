use Rattle.std.proofs.Common.{codes, refl, string_bytes, ap₂, ◌∙◌}
use Rattle.std.proofs.lemmas.Result.{IfOk-weaker}
use Rattle.journal_notes.specs.NoteLine.{object_text, refused_members}
use Rattle.journal_notes.proofs.line_text.refused_line.Goals as goal

pub returns : goal.returns
returns c =
    let last = string_bytes c.in_ok-last.last in
    let since = string_bytes c.in_ok-since.since in
    let message = c.args.message.now in
    IfOk-weaker c.refused_text.result _ _
    (λ text is. record {
      members = refused_members message last since;
      of_note = record { last = last; since = since; last_moment = c.in_ok-last.ensures.printed; since_moment = c.in_ok-since.ensures.printed; whole = refl };
      whole = is ∙ ap₂ (λ l s. object_text c.args.file c.args.line (codes "refused") (refused_members message l s)) c.deref.ensures c.deref-2.ensures;
    }) c.refused_text.ensures
