use Rattle.std.proofs.Common.{◌++◌, codes, string_bytes, ap, ◌∙◌}
use Rattle.std.proofs.lemmas.Result.{IfOk-weaker}
use Rattle.line_fields.specs.Written.{number_data}
use Rattle.line_fields.specs.WrittenTokens.{member_tokens}
use Rattle.serde_json.specs.Data.{string}
use Rattle.journal_notes.specs.StatusNames.{name_word}
use Rattle.journal_notes.proofs.Printed.{seven_members}
use Rattle.journal_notes.proofs.line_text.refused_text.Goals as goal

pub returns : goal.returns
returns c =
    let message = c.args.message.now in
    let status = (c.in_ok-write_text.ensures {u = tt}).tokens ∙ ap (λ word. c.write_code.new.out.tokens ++ member_tokens (codes "status") (string word)) c.word.ensures in
    let number = (c.in_ok-write_number.ensures {u = tt}).tokens ∙ ap (λ n. c.in_ok-out.out.tokens ++ member_tokens (codes "number") (number_data n)) c.from.ensures in
    IfOk-weaker c.end_note.result _ _
    (λ text is. seven_members c.args.file c.args.line (codes "refused") (codes "number") (number_data message.number) (codes "wagon") (string message.wagon) (codes "status") (string (name_word message.status))
    (codes "place") (string message.place) (codes "last") (string c.args.last.now) (codes "times") (number_data message.times) (codes "since") (string c.args.since.now) _ _ _ _ _ _ _ _ (string_bytes text)
    c.in_ok-out.ensures.tokens number (c.in_ok-write_code.ensures {u = tt}).tokens status (c.in_ok-write_code-2.ensures {u = tt}).tokens
    (c.in_ok-write_text-2.ensures {u = tt}).tokens (c.in_ok-write_number-2.ensures {u = tt}).tokens (c.in_ok-write_text-3.ensures {u = tt}).tokens is) c.end_note.ensures
