use Rattle.std.proofs.Common.{refl}
use Rattle.line_fields.specs.declared.command.Command.TheVariants as command
use Rattle.office.proofs.TakenLines.{took_command}
use Rattle.office.proofs.noted_runs.NotedBook.take_sheet.Goals as goal

pub returns-in-Ok : goal.returns-in-Ok
returns-in-Ok g c =
    took_command g.N.Sink c.args.number c.args.self.now c.args.self.now.kept command.Sheet c.begin_reply.new.reply c.sheet.new.reply c.in-Ok.outcome tt c.begin_reply.ensures.text (record { streaks = refl; heard = refl }) (c.in-Ok.ensures {u = tt}).reply
