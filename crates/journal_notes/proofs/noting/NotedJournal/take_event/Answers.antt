use Rattle.journal_notes.specs.NotedJournal.{JournalValue}
use Rattle.journal_notes.proofs.TakenEvents.{with_ahead}
use Rattle.journal_notes.proofs.noting.NotedJournal.take_event.Goals as goal

pub returns-clause-notes : goal.returns-clause-notes
returns-clause-notes c =
    let old : JournalValue = record { book = c.self.inside.book; streaks = c.self.inside.watch.streaks; heard = c.self.inside.heard } in
    let new : JournalValue = record { book = c.bring_event-said.new.book; streaks = c.bring_event-said.new.watch.streaks; heard = c.by_event-self-inside.result } in
    rw (← c.self.view_is)
    (with_ahead (λ notes. notes.items) c.args.line old new c.args.event.now c.bring_event-said.result c.with_ahead_note.result c.bring_event-said.ensures.notes c.by_event-self-inside.ensures c.with_ahead_note.ensures.notes c.with_ahead_note.ensures.said)
