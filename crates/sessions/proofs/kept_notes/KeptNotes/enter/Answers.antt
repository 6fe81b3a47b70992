use Rattle.std.proofs.Common.{◌≡◌, subst, sym}
use Rattle.std.proofs.Math.Logic.{∥∥₁_map}
use Rattle.commit_book.specs.BookStep.{IsCall}
use Rattle.commit_book.specs.Books.{answer_of}
use Rattle.commit_book.specs.declared.call.Call.TheVariants as call
use Rattle.move_messages.specs.declared.event.Event.{Event}
use Rattle.journal_notes.specs.EventNotes.{office_of}
use Rattle.journal_notes.proofs.Answered.{lent_office}
use Rattle.sessions.proofs.KeptLines.{kept_lost}
use Rattle.sessions.proofs.kept_notes.KeptNotes.enter.Goals as goal

pub returns-in_default-clause-kept : goal.returns-in_default-clause-kept
returns-in_default-clause-kept c = ∥∥₁_map c.requires.kept (kept_lost c.args.book.now c.submit_with.new.self c.args.self.now c.submit_with.ensures.setting)

pub returns-clause-kept : goal.returns-clause-kept
returns-clause-kept c =
    let old = c.args.book.now in
    let answered = c.submit_with-answer in
    let before : c.state.result.now.office ≡ office_of old = lent_office c.state.result.now old c.state.ensures.state in
    let called = subst (λ (it : Event). IsCall old.setting old.state (call.Event it) (answer_of answered.result) answered.new.self.state) (sym c.in-Ok.ensures) answered.ensures.call in
    ∥∥₁_map c.requires.kept (λ kept. c.note.ensures old kept (rw c.deref.ensures.value at (rw before at c.of-before.ensures)) answered.ensures.setting called)
