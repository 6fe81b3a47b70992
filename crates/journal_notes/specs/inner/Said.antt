-- The notes of an event, by what they need of the office before.
use Rattle.std.specs.Prelude.{◌≡◌, IfOk, IsOk, List, [], MatchBool}
use Rattle.commit_book.specs.declared.answer.Answer.{Answer}
use Rattle.move_messages.specs.declared.event.Event.{Event}
use Rattle.move_messages.specs.declared.event.Event.TheVariants as event
use Rattle.operating_db.specs.Office.{Office}
use Rattle.journal_notes.specs.EventNotes.{is_accepted, message_notes}
use Rattle.journal_notes.specs.Streaks.{StreaksValue, streak_of}
use Rattle.journal_notes.specs.declared.event_before.EventBefore.{EventBefore}
use Rattle.journal_notes.specs.declared.note.Note.{Note}
use Rattle.journal_notes.specs.inner.Accepted.{commit_notes_for}

-- what was said before of an event that is accepted; nothing of another
abbrev pub IsSaid : EventBefore → Answer → List Note → Type 0
IsSaid before answer notes = MatchBool (is_accepted answer) (IsOk before.said × IfOk before.said (λ said. notes ≡ said.items)) (notes ≡ [])

abbrev pub AreSaid : EventBefore → Event → Answer → (now : Office) → StreaksValue → List Note → Type 0
AreSaid before (event.Message message) answer now streaks notes = notes ≡ message_notes message answer before.known now (streak_of streaks message.wagon)
AreSaid before (event.Place order) answer now streaks notes = IsSaid before answer notes
AreSaid before (event.Withdraw id) answer now streaks notes = IsSaid before answer notes
AreSaid before (event.Commit commit) answer now streaks notes =
    MatchBool (is_accepted answer) (IsOk before.waiting × IfOk before.waiting (λ names. notes ≡ commit_notes_for names.items now commit.pairs)) (notes ≡ [])
AreSaid before (event.Revise network) answer now streaks notes = notes ≡ []
