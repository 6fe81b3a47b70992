use Rattle.std.proofs.Common.{◌++◌, codes, string_bytes, ap, ◌∙◌}
use Rattle.std.proofs.lemmas.Result.{IfOk-weaker}
use Rattle.line_fields.specs.Written.{number_data}
use Rattle.line_fields.specs.WrittenTokens.{member_tokens}
use Rattle.serde_json.specs.Data.{string}
use Rattle.journal_notes.proofs.Printed.{four_members}
use Rattle.journal_notes.proofs.line_text.overdue_text.Goals as goal

pub returns : goal.returns
returns c =
    let order = c.args.order.now in
    let missing = (c.in_ok-write_number.ensures {u = tt}).tokens ∙ ap (λ n. c.write_text.new.out.tokens ++ member_tokens (codes "missing") (number_data n)) c.from.ensures in
    IfOk-weaker c.end_note.result _ _
    (λ text is. four_members c.args.file c.args.line (codes "overdue") (codes "order") (string order.order) (codes "latest") (string c.args.latest.now) (codes "missing") (number_data order.missing)
    (codes "promised") (number_data order.promised) _ _ _ _ _ (string_bytes text)
    c.in_ok-out.ensures.tokens (c.in_ok-write_code.ensures {u = tt}).tokens (c.in_ok-write_text.ensures {u = tt}).tokens missing (c.in_ok-write_number-2.ensures {u = tt}).tokens is) c.end_note.ensures
