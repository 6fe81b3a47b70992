use Rattle.std.proofs.Common.{sym, arith}
use Rattle.line_fields.proofs.PlainMessages.{command_of-plain}
use Rattle.line_fields.proofs.plain_message.message_of.Goals as goal

pub returns : goal.returns
returns c =
    command_of-plain c.args.fields.now c.in_ok-kind.kind c.in-Ok.company c.in-Ok-read.wagon c.in-Ok-read-2.place c.in-Ok-read-3.moment (omega arith) c.in_ok-kind.ensures
    (sym c.in-Ok.ensures.meaning) (sym c.in-Ok-read.ensures.meaning) (sym c.in-Ok-read-2.ensures.meaning) (sym c.in-Ok-read-3.ensures)
