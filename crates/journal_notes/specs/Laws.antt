-- What holds of the notes of every event.
use Rattle.std.specs.Prelude.{◌≡◌, ◌≢◌, ℕ, Bool, true, false, ◌&&◌, nat_eq, List, Option, Some, None}
use Rattle.std.specs.Cmp.Lexicographic.{pointwise}
use Rattle.std.specs.List.{list_any}
use Rattle.std.specs.Option.{option_or}
use Rattle.commit_book.specs.Books.{BookValue}
use Rattle.fleet_rows.specs.Rows.{wagon_in}
use Rattle.move_messages.specs.declared.event.Event.{Event}
use Rattle.operating_db.specs.Office.{Office}
use Rattle.operating_db.specs.Promises.{PromisesAgree, promise_of}
use Rattle.journal_notes.specs.EventNotes.{IsNotedEvent, office_of}
use Rattle.journal_notes.specs.Streaks.{StreaksValue}
use Rattle.journal_notes.specs.declared.note.Note.{Note}
use Rattle.journal_notes.specs.declared.note.Note.TheVariants.{Promised, Delivered, Ended}

-- the order that a wagon of an office is promised to
abbrev pub promise_in : Office → (number : List ℕ) → Option (List ℕ)
promise_in office number = promise_of (wagon_in office.wagons number)

-- whether a note tells of a promise of this wagon to this order: that it is made, is kept by a delivery, or ended
abbrev pub tells_of : (number order : List ℕ) → Note → Bool
tells_of number order (Promised pair) = pointwise nat_eq number pair.wagon && pointwise nat_eq order pair.order
tells_of number order (Delivered pair) = pointwise nat_eq number pair.wagon && pointwise nat_eq order pair.order
tells_of number order (Ended ended) = pointwise nat_eq number ended.wagon && pointwise nat_eq order ended.order
tells_of number order note = false

-- a note tells of the promise of this wagon
abbrev pub IsTold : (number : List ℕ) → (promise : Option (List ℕ)) → List Note → Type 0
IsTold number None notes = ⊥
IsTold number (Some order) notes = list_any (tells_of number order) notes ≡ true

-- No change of a promise is left out. Wherever the promise of a wagon differs between the office before an event and the one after
-- it, a note tells of the promise that it has then, or where it has none, of the one that it had.
abbrev pub PromisesAreNoted : Type 0
PromisesAreNoted =
    (old : BookValue) (before : StreaksValue) (happens : Event) (notes : List Note) (new : BookValue) (after : StreaksValue)
    → PromisesAgree (office_of old) → IsNotedEvent old before happens notes new after → (number : List ℕ)
    → promise_in (office_of old) number ≢ promise_in (office_of new) number
    → IsTold number (option_or (promise_in (office_of new) number) (promise_in (office_of old) number)) notes
