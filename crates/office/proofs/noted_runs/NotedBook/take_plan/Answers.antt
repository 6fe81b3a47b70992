use Rattle.std.proofs.Common.{subst, sym}
use Rattle.line_engine.specs.Outcome.{is_refusal}
use Rattle.line_fields.specs.declared.command.Command.TheVariants as command
use Rattle.journal_notes.specs.NotedJournal.{JournalValue}
use Rattle.office.specs.CommandReplies.{LeavesOutOfMemory}
use Rattle.office.proofs.TakenLines.{refused_command, took_command}
use Rattle.office.proofs.noted_runs.NotedBook.take_plan.Goals as goal

pub returns-in-Ok : goal.returns-in-Ok
returns-in-Ok g c =
    took_command g.N.Sink c.args.number c.args.self.now c.plan.new.self (command.Plan c.args.at) c.begin_reply.new.reply c.plan.new.reply c.in-Ok.outcome tt c.begin_reply.ensures.text (c.in-Ok.ensures {u = tt}).notes (c.in-Ok.ensures {u = tt}).reply

pub returns-in-Err : goal.returns-in-Err
returns-in-Err g c =
    refused_command g.N.Sink c.args.number c.args.self.now c.refuse.new.self (command.Plan c.args.at) c.refuse.new.reply (is_refusal c.refuse.result) tt
    (subst (λ (kept : JournalValue). LeavesOutOfMemory c.args.self.now.kept.book (command.Plan c.args.at) kept.book) (sym c.refuse.ensures.kept) c.in-Err.ensures.reply)
    c.refuse.ensures.text c.refuse.ensures.refused c.refuse.ensures.written
