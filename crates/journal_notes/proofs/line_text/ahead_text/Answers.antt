use Rattle.std.proofs.Common.{codes, string_bytes}
use Rattle.std.proofs.lemmas.Result.{IfOk-weaker}
use Rattle.line_fields.specs.Written.{number_data}
use Rattle.serde_json.specs.Data.{string}
use Rattle.journal_notes.proofs.Printed.{three_members}
use Rattle.journal_notes.proofs.line_text.ahead_text.Goals as goal

pub returns : goal.returns
returns c =
    let message = c.args.message.now in
    IfOk-weaker c.end_note.result _ _
    (λ text is. three_members c.args.file c.args.line (codes "ahead") (codes "of") (number_data message.line) (codes "wagon") (string message.wagon) (codes "moment") (string c.args.moment.now) _ _ _ _ (string_bytes text)
    c.in_ok-out.ensures.tokens (c.in_ok-write_number.ensures {u = tt}).tokens (c.in_ok-write_code.ensures {u = tt}).tokens (c.in_ok-write_text.ensures {u = tt}).tokens is) c.end_note.ensures
