use Rattle.std.proofs.Common.{◌≡◌}
use Rattle.std.proofs.Math.Logic.{∥∥₁_map}
use Rattle.journal_notes.specs.EventNotes.{office_of}
use Rattle.journal_notes.proofs.Answered.{lent_office}
use Rattle.sessions.proofs.kept_notes.KeptNotes.enter_message.Goals as goal

pub returns-clause-kept : goal.returns-clause-kept
returns-clause-kept c =
    let old = c.args.book.now in
    let answered = c.message_near-answer in
    let before : c.state.result.now.office ≡ office_of old = lent_office c.state.result.now old c.state.ensures.state in
    ∥∥₁_map c.requires.kept (λ kept. c.note.ensures old kept (rw before at c.of-before.ensures) answered.ensures.setting answered.ensures.call)
