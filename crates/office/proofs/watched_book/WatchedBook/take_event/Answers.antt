use Rattle.std.proofs.Common.{◌≡◌, ◌∙◌, ap, length, sym}
use Rattle.commit_book.specs.Books.{answer_of}
use Rattle.commit_book.specs.Setting.{Setting}
use Rattle.journal_notes.specs.EventNotes.{office_of}
use Rattle.journal_notes.specs.NotedJournal.{JournalValue}
use Rattle.journal_notes.proofs.Answered.{answered, brought, lent_office}
use Rattle.journal_notes.proofs.TakenEvents.{with_ahead}
use Rattle.office.proofs.TakenLines.{event_lines}
use Rattle.office.proofs.watched_book.WatchedBook.take_event.Goals as goal

pub returns-clause-notes : goal.returns-clause-notes
returns-clause-notes c =
    let book = c.self.inside.book in
    let book' = c.enter-answer.new.book in
    let old : JournalValue = record { book = book; streaks = c.self.inside.watch.streaks; heard = c.self.inside.heard } in
    let new : JournalValue = record { book = book'; streaks = c.notes_of-said.new.watch.streaks; heard = c.by_event-self-inside.result } in
    let before : c.state.result.now.office ≡ office_of book = lent_office c.state.result.now book c.state.ensures.state in
    let now : c.state-2.result.now.office ≡ office_of book' = lent_office c.state-2.result.now book' c.state-2.ensures.state in
    rw (← c.self.view_is)
    (event_lines (λ notes. notes.items) c.args.line old new c.args.event.now c.with_ahead_note-notes.result c.write_note_lines.new.reply
    (with_ahead (λ notes. notes.items) c.args.line old new c.args.event.now c.notes_of-said.result c.with_ahead_note-notes.result
    (brought (λ notes. notes.items) book book' c.deref.result.now c.of-before.result c.args.event.now (answer_of c.enter-answer.result) c.self.inside.watch c.notes_of-said.new.watch c.notes_of-said.result
    (c.deref.ensures.value ∙ c.self.invariant.0) (rw before at c.of-before.ensures) c.self.invariant.1 c.enter-answer.ensures.setting c.enter-answer.ensures.call
    (rw now at c.notes_of-said.ensures.notes) c.notes_of-said.ensures.streaks c.notes_of-said.ensures.memory)
    c.by_event-self-inside.ensures c.with_ahead_note-notes.ensures.notes c.with_ahead_note-notes.ensures.said)
    c.write_note_lines.ensures)

pub invariant_of-self : goal.invariant_of-self
invariant_of-self c =
    let book = c.self.inside.book in
    let book' = c.enter-answer.new.book in
    let now : c.state-2.result.now.office ≡ office_of book' = lent_office c.state-2.result.now book' c.state-2.ensures.state in (
      c.self.invariant.0 ∙ ap (λ (s : Setting). s.networks) (sym c.enter-answer.ensures.setting),
      (rw now at c.notes_of-said.ensures.watch) (length book.setting.networks) (office_of book) c.self.invariant.1 (answered book book' c.args.event.now (answer_of c.enter-answer.result) c.enter-answer.ensures.setting c.enter-answer.ensures.call),
    )
