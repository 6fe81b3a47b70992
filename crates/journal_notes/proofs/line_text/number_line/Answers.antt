use Rattle.std.proofs.Common.{codes, string_bytes}
use Rattle.std.proofs.lemmas.Result.{IfOk-weaker}
use Rattle.line_fields.specs.Written.{number_data}
use Rattle.serde_json.specs.Data.{string}
use Rattle.journal_notes.proofs.Printed.{two_members}
use Rattle.journal_notes.proofs.line_text.number_line.Goals as goal

pub returns : goal.returns
returns c =
    IfOk-weaker c.end_note.result _ _
    (λ text is. two_members c.args.file c.args.line c.args.word.now (codes "order") (string c.args.order.now) c.args.name.now (number_data c.args.number) _ _ _ (string_bytes text)
    c.in_ok-out.ensures.tokens (c.in_ok-write_code.ensures {u = tt}).tokens (c.in_ok-write_number.ensures {u = tt}).tokens is) c.end_note.ensures
