-- The notes of an event that was answered: what they are, and the watch after it. They stand for each office that may have been before.
use Rattle.std.specs.Prelude.{◌≡◌, ℕ, if◌then◌else◌, List, length}
use Rattle.commit_book.specs.History.{after}
use Rattle.commit_book.specs.declared.answer.Answer.{Answer}
use Rattle.line_network.specs.Network.{NetworkValue}
use Rattle.move_messages.specs.declared.event.Event.{Event}
use Rattle.operating_db.specs.Office.{Office}
use Rattle.journal_notes.specs.EventBefore.{IsBefore}
use Rattle.journal_notes.specs.EventNotes.{event_notes, is_accepted}
use Rattle.journal_notes.specs.Watches.{IsWatchOf, WatchValue}
use Rattle.journal_notes.specs.declared.event_before.EventBefore.{EventBefore}
use Rattle.journal_notes.specs.declared.note.Note.{Note}

-- the office after an event that is answered so, where there are so many networks: an accepted event has happened
abbrev pub office_after : (networks : ℕ) → Office → Event → Answer → Office
office_after networks office happens answer = if is_accepted answer then after networks office happens else office

-- Wherever this was what the notes need of an office before the event, and the watch that of this office, and the answer leads from
-- it to the office now, these are the notes of the event.
abbrev pub AreNotesOf : EventBefore → Event → Answer → (now : Office) → (watch : WatchValue) → List Note → Type 0
AreNotesOf before happens answer now watch notes =
    (networks : List NetworkValue) (office : Office) → IsBefore networks office happens before → IsWatchOf office watch
    → now ≡ office_after (length networks) office happens answer
    → notes ≡ event_notes networks office happens answer now watch.streaks

-- Wherever the watch was that of an office before the event, and the answer leads from it to the office now, the new watch is that of
-- the office now.
abbrev pub KeepsWatch : Event → Answer → (now : Office) → (old new : WatchValue) → Type 0
KeepsWatch happens answer now old new =
    (networks : ℕ) (office : Office) → IsWatchOf office old → now ≡ office_after networks office happens answer → IsWatchOf now new
