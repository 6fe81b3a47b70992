use Rattle.std.proofs.Common.{◌≡◌, ◌∙◌, refl, sym}
use Rattle.commit_book.specs.Books.{answer_of}
use Rattle.journal_notes.specs.EventNotes.{office_of}
use Rattle.journal_notes.proofs.Answered.{lent_office}
use Rattle.sessions.specs.declared.kept_notes.KeptNotes.{KeptNotes}
use Rattle.sessions.proofs.KeptLines.{note_kept}
use Rattle.sessions.proofs.kept_notes.KeptNotes.note.Goals as goal

pub returns-else-is_err : goal.returns-else-is_err
returns-else-is_err c = λ book kept is_before setting called.
    let now : c.state.result.now.office ≡ office_of c.args.book.now = lent_office c.state.result.now c.args.book.now c.state.ensures.state in
    let mid : KeptNotes = record c.args.self.now { watch = c.notes_of-said.new.watch } in
    note_kept (λ notes. notes.items) c.args.self.now mid c.write.new.self c.args.from book c.args.book.now c.args.event.now c.args.before (answer_of c.args.answer.now) c.notes_of-said.result c.write.result
    (sym c.is_err.ensures.value ∙ c.if-is_err.false) c.if-self.false kept is_before setting called (rw now at c.notes_of-said.ensures.notes) c.notes_of-said.ensures.streaks c.notes_of-said.ensures.memory
    (rw now at c.notes_of-said.ensures.watch) refl refl refl c.write.ensures.written c.write.ensures.said c.write.ensures.watch c.write.ensures.networks
