use Rattle.std.proofs.Common.{◌++◌, codes, string_bytes, ap, ◌∙◌}
use Rattle.std.proofs.lemmas.Result.{IfOk-weaker}
use Rattle.line_fields.specs.WrittenTokens.{member_tokens}
use Rattle.serde_json.specs.Data.{string}
use Rattle.journal_notes.specs.NoteLine.{cause_word}
use Rattle.journal_notes.proofs.Printed.{three_members}
use Rattle.journal_notes.proofs.line_text.ended_line.Goals as goal

pub returns : goal.returns
returns c =
    let ended = c.args.ended.now in
    IfOk-weaker c.end_note.result _ _
    (λ text is. three_members c.args.file c.args.line (codes "ended") (codes "wagon") (string ended.wagon) (codes "order") (string ended.order) (codes "why") (string (cause_word ended.cause)) _ _ _ _ (string_bytes text)
    c.in_ok-out.ensures.tokens (c.in_ok-write_code.ensures {u = tt}).tokens (c.in_ok-write_code-2.ensures {u = tt}).tokens
    ((c.in_ok-write_text.ensures {u = tt}).tokens ∙ ap (λ word. c.write_code-2.new.out.tokens ++ member_tokens (codes "why") (string word)) c.cause_word.ensures) is) c.end_note.ensures
