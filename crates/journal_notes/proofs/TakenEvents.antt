-- A line with an event: the notes of the event, and behind them the one of the message before it.
use Rattle.std.proofs.Common.{◌≡◌, ℕ, List, ◌++◌, true≢false, Result, Ok, Err, sym}
use Rattle.std.specs.Prelude.{IfOk, IsOk, OnOk}
use Rattle.std.specs.declared.alloc.AllocError.{AllocError}
use Rattle.move_messages.specs.declared.event.Event.{Event}
use Rattle.journal_notes.specs.EventNotes.{IsNotedEvent}
use Rattle.journal_notes.specs.Heard.{heard_by_event}
use Rattle.journal_notes.specs.NotedJournal.{JournalValue, NotesEvent, ahead_of_event}
use Rattle.journal_notes.specs.declared.note.Note.{Note}

pub with_ahead : {V : Type 0} (items : V → List Note) (line : ℕ) (old new : JournalValue) (happens : Event) (said result : Result V AllocError)
    → IfOk said (λ some. IsNotedEvent old.book old.streaks happens (items some) new.book new.streaks)
    → new.heard ≡ heard_by_event line old.heard happens
    → IfOk result (λ notes. IfOk said (λ some. items notes ≡ items some ++ ahead_of_event old.heard happens))
    → OnOk result (IsOk said)
    → IfOk result (λ notes. NotesEvent line old happens (items notes) new)
with_ahead items line old new happens (Ok some) (Ok notes) noted heard whole is = record { said = items some; noted = noted; heard = heard; whole = whole }
with_ahead items line old new happens (Err error) (Ok notes) noted heard whole is = absurd (true≢false (sym is))
with_ahead items line old new happens said (Err error) noted heard whole is = tt
