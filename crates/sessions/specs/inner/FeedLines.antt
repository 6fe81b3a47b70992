-- How a file's lines change what is counted of the file, and which of its events wait to be submitted.
use Rattle.std.specs.Prelude.{◌≡◌, ◌+◌, ◌++◌, ◌<◌, ◌≤◌, ◌^◌, ◌⊎◌, ℕ, Bool, true, false, List, [], ◌∷◌, Result, Ok}
use Rattle.line_fields.specs.Commands.{command_of}
use Rattle.line_fields.specs.declared.command.Command.{Command}
use Rattle.line_fields.specs.declared.command.Command.TheVariants as command
use Rattle.line_fields.specs.declared.fault.LineFault.{LineFault}
use Rattle.move_messages.specs.declared.event.Event.{Event}
use Rattle.sessions.specs.FedLines.{IsReadIn, is_refused, is_repeated}
use Rattle.sessions.specs.inner.RefusedWagons.{AreNotedBy}
use Rattle.sessions.specs.declared.feed_lines.FileLines.{FileLines}
use Rattle.sessions.specs.declared.feed_lines.Counted.{Counted}
use Rattle.sessions.specs.declared.file_seat.FileSeat.{FileSeat}
use Rattle.sessions.specs.declared.book_ledger.BookLedger.{Ghosts}

-- one more, or as many where 64 bits hold no more
pub record IsOneMore (old new : ℕ) : Type 0 where
  pub grows : old ≤ new
  pub little : new ≤ old + 1
  pub exact : old + 1 < 2 ^ 64 → new ≡ old + 1

-- what a count becomes by a line that is counted there, or isn't
abbrev pub Adds : Bool → (old new : ℕ) → Type 0
Adds true old new = IsOneMore old new
Adds false old new = new ≡ old

-- what a line that is read so does to a file's seat and counts
pub record IsReadFed {L : Type 0} {g : Ghosts L} (old : FileSeat L g) (read : Result Command LineFault) (new : FileSeat L g) : Type 0 where
  pub counted : Counted
  pub taken : IsReadIn g.setting old.seat new.seat read counted
  pub repeated : Adds (is_repeated counted) old.repeated new.repeated
  pub refused : Adds (is_refused counted) old.refused new.refused
  pub out_of_step : AreNotedBy (counted ∷ []) old.out_of_step new.out_of_step

-- so does an event
abbrev pub IsEventFed : {L : Type 0} {g : Ghosts L} → (old : FileSeat L g) → Event → (new : FileSeat L g) → Type 0
IsEventFed old event new = IsReadFed old (Ok (command.Event event)) new

-- so do events, one after the other
abbrev pub AreEventsFed : {L : Type 0} {g : Ghosts L} → List Event → (old new : FileSeat L g) → Type 0
AreEventsFed [] old new = new ≡ old
AreEventsFed {L} {g} (event ∷ events) old new = (mid : FileSeat L g) × IsEventFed old event mid × AreEventsFed events mid new

-- an event waits behind those that wait
pub record Waits {L : Type 0} {g : Ghosts L} (old : FileLines L g) (read : Result Command LineFault) (new : FileLines L g) : Type 0 where
  pub event : Event
  pub is_event : read ≡ Ok (command.Event event)
  pub file : new.file ≡ old.file
  pub pending : new.pending.items ≡ old.pending.items ++ event ∷ []

-- what waits is submitted first, and nothing waits then
pub record IsFedBehind {L : Type 0} {g : Ghosts L} (old : FileLines L g) (read : Result Command LineFault) (new : FileLines L g) : Type 0 where
  pub mid : FileSeat L g
  pub before : AreEventsFed old.pending.items old.file mid
  pub fed : IsReadFed mid read new.file
  pub pending : new.pending.items ≡ []

-- what a line that is read so does to a file and to the events that wait
abbrev pub IsReadBrought : {L : Type 0} {g : Ghosts L} → (old : FileLines L g) → Result Command LineFault → (new : FileLines L g) → Type 0
IsReadBrought old read new = Waits old read new ⊎ IsFedBehind old read new

-- the same of a line that isn't blank
abbrev pub IsLineBrought : {L : Type 0} {g : Ghosts L} → (old : FileLines L g) → (line : List ℕ) → (new : FileLines L g) → Type 0
IsLineBrought old line new = IsReadBrought old (command_of line) new
