use Rattle.std.proofs.Common.{codes, string_bytes}
use Rattle.std.proofs.lemmas.Result.{IfOk-weaker}
use Rattle.serde_json.specs.Data.{string}
use Rattle.journal_notes.proofs.Printed.{two_members}
use Rattle.journal_notes.proofs.line_text.text_line.Goals as goal

pub returns : goal.returns
returns c =
    IfOk-weaker c.end_note.result _ _
    (λ made is. two_members c.args.file c.args.line c.args.word.now (codes "order") (string c.args.order.now) c.args.name.now (string c.args.text.now) _ _ _ (string_bytes made)
    c.in_ok-out.ensures.tokens (c.in_ok-write_code.ensures {u = tt}).tokens (c.in_ok-write_text.ensures {u = tt}).tokens is) c.end_note.ensures
