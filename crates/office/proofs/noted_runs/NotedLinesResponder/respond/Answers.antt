use Rattle.std.proofs.Common.{Result, subst, sym}
use Rattle.line_engine.specs.Outcome.{is_refusal}
use Rattle.line_fields.specs.declared.command.Command.{Command}
use Rattle.line_fields.specs.declared.fault.LineFault.{LineFault}
use Rattle.office.specs.inner.NotedReads.{TakesRead}
use Rattle.office.proofs.TakenLines.{both}
use Rattle.office.proofs.noted_runs.NotedLinesResponder.respond.Goals as goal

pub returns-in-Ok : goal.returns-in-Ok
returns-in-Ok g c =
    both g.N.Sink c.args.number c.args.noted.now c.args.line.now c.take_command.new.reply (is_refusal c.take_command.result) c.take_command.new.self
    (subst (λ (read : Result Command LineFault). TakesRead g.N.Sink c.args.number c.args.noted.now read c.take_command.new.reply (is_refusal c.take_command.result) c.take_command.new.self) (sym c.in-Ok.ensures) c.take_command.ensures)
