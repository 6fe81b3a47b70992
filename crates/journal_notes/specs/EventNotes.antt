-- What is noted of an event, by the office before it, its answer, and the office after it.
use Rattle.std.specs.Prelude.{◌≡◌, Bool, true, false, if◌then◌else◌, List, [], ◌++◌, Option, Some, None}
use Rattle.commit_book.specs.BookStep.{IsCall, IsStep}
use Rattle.commit_book.specs.Books.{BookValue, present_office}
use Rattle.commit_book.specs.declared.answer.Answer.{Answer}
use Rattle.commit_book.specs.declared.answer.Answer.TheVariants.{Done, Begun, Refused}
use Rattle.commit_book.specs.declared.call.Call.{Call}
use Rattle.commit_book.specs.declared.call.Call.TheVariants as call
use Rattle.commit_book.specs.declared.reply.Reply.TheVariants.{Accepted, Repeated}
use Rattle.faults.specs.Numbers.{step_fault_number}
use Rattle.faults.specs.declared.faults.Refusal.{Refusal}
use Rattle.faults.specs.declared.faults.Refusal.TheVariants.{Step}
use Rattle.line_network.specs.Network.{NetworkValue}
use Rattle.move_messages.specs.declared.event.Event.{Event}
use Rattle.move_messages.specs.declared.event.Event.TheVariants as event
use Rattle.move_messages.specs.declared.message.Message as movement
use Rattle.operating_db.specs.Office.{Office}
use Rattle.journal_notes.specs.MessageNotes.{accepted_notes, known_in, refused_notes}
use Rattle.journal_notes.specs.OfficeNotes.{commit_notes, withdrawal_notes}
use Rattle.journal_notes.specs.OrderNotes.{order_notes}
use Rattle.journal_notes.specs.OverdueNotes.{overdue_notes}
use Rattle.journal_notes.specs.Streaks.{IsWithStreak, StreaksValue, one_more, streak_of}
use Rattle.journal_notes.specs.declared.known_wagon.KnownWagon.{KnownWagon}
use Rattle.journal_notes.specs.declared.note.Note.{Note}
use Rattle.journal_notes.specs.declared.streaks.Streak.{Streak}

-- whether an event is an entry by this answer
abbrev pub is_accepted : Answer → Bool
is_accepted (Done (Accepted n)) = true
is_accepted (Done (Repeated n)) = false
is_accepted (Begun n) = false
is_accepted (Refused refusal) = false

-- ---- messages

-- the notes of a refused message: the status table's refusals, 31 to 33, have one
abbrev pub refusal_notes : movement.Message → Refusal → Option KnownWagon → Option Streak → List Note
refusal_notes message (Step fault) known streak = refused_notes message (step_fault_number fault) known (one_more streak message.moment)
refusal_notes message refusal known streak = []

-- the notes of a message, by what was known of its wagon, and by the wagon's streak before
abbrev pub message_notes : movement.Message → Answer → Option KnownWagon → (after : Office) → Option Streak → List Note
message_notes message (Done (Accepted n)) known after streak = accepted_notes message known after
message_notes message (Done (Repeated n)) known after streak = []
message_notes message (Begun n) known after streak = []
message_notes message (Refused refusal) known after streak = refusal_notes message refusal known streak

-- a message that the status table refused lengthens its wagon's streak
abbrev pub StreaksRefused : movement.Message → Refusal → (old new : StreaksValue) → Type 0
StreaksRefused message (Step fault) old new = IsWithStreak message.wagon (Some (one_more (streak_of old message.wagon) message.moment)) old new
StreaksRefused message refusal old new = new ≡ old

-- an accepted one ends it
abbrev pub StreaksOfMessage : movement.Message → Answer → (old new : StreaksValue) → Type 0
StreaksOfMessage message (Done (Accepted n)) old new = IsWithStreak message.wagon None old new
StreaksOfMessage message (Done (Repeated n)) old new = new ≡ old
StreaksOfMessage message (Begun n) old new = new ≡ old
StreaksOfMessage message (Refused refusal) old new = StreaksRefused message refusal old new

-- ---- events

-- the notes of an event, where these are the networks; orders that an accepted message makes overdue stand behind the message's own
abbrev pub event_notes : List NetworkValue → (before : Office) → Event → Answer → (after : Office) → StreaksValue → List Note
event_notes networks before (event.Message message) answer after streaks =
    message_notes message answer (known_in before message.wagon) after (streak_of streaks message.wagon) ++ (if is_accepted answer then overdue_notes before after else [])
event_notes networks before (event.Place order) answer after streaks = if is_accepted answer then order_notes networks before.wagons order else []
event_notes networks before (event.Withdraw id) answer after streaks = if is_accepted answer then withdrawal_notes before id else []
event_notes networks before (event.Commit commit) answer after streaks = if is_accepted answer then commit_notes before after commit.pairs else []
event_notes networks before (event.Revise network) answer after streaks = []

-- the streaks after an event
abbrev pub StreaksAfter : Event → Answer → (old new : StreaksValue) → Type 0
StreaksAfter (event.Message message) answer old new = StreaksOfMessage message answer old new
StreaksAfter (event.Place order) answer old new = new ≡ old
StreaksAfter (event.Withdraw id) answer old new = new ≡ old
StreaksAfter (event.Commit commit) answer old new = new ≡ old
StreaksAfter (event.Revise network) answer old new = new ≡ old

-- the office of a book's present version
abbrev pub office_of : BookValue → Office
office_of book = (present_office book).office

-- an event is a step of the book, and its answer says which notes it has
pub record IsNotedEvent (old : BookValue) (before : StreaksValue) (happens : Event) (notes : List Note) (new : BookValue) (after : StreaksValue) : Type 0 where
  pub answer : Answer
  pub step : IsStep old.setting old.state (call.Event happens) answer new.state
  pub setting : new.setting ≡ old.setting
  pub streaks : StreaksAfter happens answer before after
  pub are_notes : notes ≡ event_notes old.setting.networks (office_of old) happens answer (office_of new) before

-- a call leads from one book to another; memory may be refused, and nothing has changed then
pub record CallsTo (old : BookValue) (asked : Call) (new : BookValue) : Type 0 where
  pub answer : Answer
  pub call : IsCall old.setting old.state asked answer new.state
  pub setting : new.setting ≡ old.setting
