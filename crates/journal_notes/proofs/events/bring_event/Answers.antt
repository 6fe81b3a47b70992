use Rattle.std.proofs.Common.{◌≡◌, length, ap}
use Rattle.commit_book.specs.Books.{answer_of}
use Rattle.operating_db.specs.State.{StateValue}
use Rattle.journal_notes.specs.EventNotes.{office_of}
use Rattle.journal_notes.proofs.Answered.{answered, brought}
use Rattle.journal_notes.proofs.events.bring_event.Goals as goal

pub returns-clause-notes : goal.returns-clause-notes
returns-clause-notes c =
    let old = c.args.book.now in
    let new = c.enter-answer.new.book in
    let before : c.state.result.now.office ≡ office_of old = ap (λ (state : StateValue). state.office) c.state.ensures.state in
    let now : c.state-2.result.now.office ≡ office_of new = ap (λ (state : StateValue). state.office) c.state-2.ensures.state in
    brought (λ notes. notes.items) old new c.args.networks.now c.of-before.result c.args.event.now (answer_of c.enter-answer.result) c.args.watch.now c.notes_of.new.watch c.notes_of.result
    c.requires.networks (rw before at c.of-before.ensures) c.requires.watch c.enter-answer.ensures.setting c.enter-answer.ensures.call
    (rw now at c.notes_of.ensures.notes) c.notes_of.ensures.streaks c.notes_of.ensures.memory

pub returns-clause-watch : goal.returns-clause-watch
returns-clause-watch c =
    let old = c.args.book.now in
    let new = c.enter-answer.new.book in
    let now : c.state-2.result.now.office ≡ office_of new = ap (λ (state : StateValue). state.office) c.state-2.ensures.state in
    (rw now at c.notes_of.ensures.watch) (length old.setting.networks) (office_of old) c.requires.watch (answered old new c.args.event.now (answer_of c.enter-answer.result) c.enter-answer.ensures.setting c.enter-answer.ensures.call)
