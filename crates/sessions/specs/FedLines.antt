-- What the lines of a file that is fed to a book do at the file's seat, and what each of them counts as.
use Rattle.std.specs.Prelude.{◌≡◌, ◌⊎◌, ◌<◌, ◌≤◌, ℕ, Bool, true, false, List, [], ◌∷◌, Option, Some, None, MatchOption, if◌then◌else◌, Result, Ok, Err, length, map}
use Rattle.std.specs.List.{count_by}
use Rattle.std.specs.Io.KnownBytes.{Consumes, IsAtEnd}
use Rattle.line_fields.specs.declared.fault.LineFault.{LineFault}
use Rattle.line_engine.specs.Lines.{BeginsWith, first_line, has_feed, is_blank, lines_of, max_input_lines, max_line_bytes}
use Rattle.line_network.specs.Network.{NetworkValue}
use Rattle.line_fields.specs.Commands.{command_of}
use Rattle.line_fields.specs.declared.command.Command.{Command}
use Rattle.line_fields.specs.declared.command.Command.TheVariants as command
use Rattle.move_messages.specs.declared.commit_text.CommitText.{CommitText}
use Rattle.move_messages.specs.declared.event.Event.{Event}
use Rattle.move_messages.specs.declared.event.Event.TheVariants as event
use Rattle.price_checker.specs.Snap.{SnapValue, named_pair}
use Rattle.faults.specs.declared.faults.Refusal.{Refusal}
use Rattle.faults.specs.declared.faults.Refusal.TheVariants as refusal
use Rattle.commit_book.specs.Setting.{Setting}
use Rattle.commit_book.specs.declared.reply.Reply.{Reply}
use Rattle.commit_book.specs.declared.reply.Reply.TheVariants as reply
use Rattle.sessions.specs.AnyBook.{IsSnapAt}
use Rattle.sessions.specs.Planning.{IsPlanned}
use Rattle.sessions.specs.Seat.{SeatValue, count_of, new_seat}
use Rattle.sessions.specs.Submitted as session
use Rattle.sessions.specs.declared.feed_lines.Counted.{Counted}
use Rattle.sessions.specs.declared.feed_lines.Counted.TheVariants.{Accepted, Repeated, OutOfStep, Refused, Nowhere}

-- ---- what a line counts as

-- the wagon of a message
abbrev pub wagon_of : Event → Option (List ℕ)
wagon_of (event.Message message) = Some message.wagon
wagon_of (event.Place order) = None
wagon_of (event.Withdraw id) = None
wagon_of (event.Commit commit) = None
wagon_of (event.Revise network) = None

-- whether the status table refuses (31 to 33)
abbrev pub is_step : Refusal → Bool
is_step (refusal.Step fault) = true
is_step why = false

-- A message of a wagon is out of step where the status table refuses it. What else is refused is just that.
abbrev pub refused_as : (wagon : Option (List ℕ)) → Refusal → Counted
refused_as None why = Refused
refused_as (Some wagon) why = if is_step why then OutOfStep wagon else Refused

-- what an answer counts as, to a message of a wagon or to another event
abbrev pub counted_of : (wagon : Option (List ℕ)) → Result Reply Refusal → Counted
counted_of wagon (Ok (reply.Accepted n)) = Accepted
counted_of wagon (Ok (reply.Repeated n)) = Repeated
counted_of wagon (Err why) = refused_as wagon why

-- what an answer to an event counts as
abbrev pub counted_by : Event → Result Reply Refusal → Counted
counted_by event result = counted_of (wagon_of event) result

abbrev pub is_accepted : Counted → Bool
is_accepted Accepted = true
is_accepted Repeated = false
is_accepted (OutOfStep wagon) = false
is_accepted Refused = false
is_accepted Nowhere = false

abbrev pub is_repeated : Counted → Bool
is_repeated Accepted = false
is_repeated Repeated = true
is_repeated (OutOfStep wagon) = false
is_repeated Refused = false
is_repeated Nowhere = false

abbrev pub is_refused : Counted → Bool
is_refused Accepted = false
is_refused Repeated = false
is_refused (OutOfStep wagon) = true
is_refused Refused = true
is_refused Nowhere = false

-- ---- commands

-- an event brought to a seat: a book of this setting answers the call for it, the seat has what that answer gives it, and the line
-- counts as that answer
pub record IsSubmitted (setting : Setting) (old new : SeatValue) (event : Event) (counted : Counted) : Type 0 where
  pub result : Result Reply Refusal
  pub answered : session.IsSubmitted setting old new event result
  pub counts : counted ≡ counted_by event result

-- the commit of a certificate of a snapshot's problem, over the network of its version
pub record IsPlansCommit (networks : List NetworkValue) (snap : SnapValue) (commit : CommitText) : Type 0 where
  pub pairs : List (ℕ × ℕ)
  pub planned : IsPlanned networks snap pairs commit.u commit.v
  pub version : commit.version ≡ snap.version
  pub at : commit.at ≡ snap.problem.at
  pub named : commit.pairs ≡ map (named_pair snap.problem) pairs

-- a plan that was begun at a moment, and whose commit was brought to the seat
pub record IsCommitted (setting : Setting) (old new : SeatValue) (at : ℕ) (counted : Counted) : Type 0 where
  pub snap : SnapValue
  pub begun : IsSnapAt setting (count_of old) at snap
  pub commit : CommitText
  pub is_commit : IsPlansCommit setting.networks snap commit
  pub submitted : IsSubmitted setting old new (event.Commit commit) counted

-- nothing was done at the seat, and the line counts as refused
abbrev pub IsTurnedAway : (old new : SeatValue) → Counted → Type 0
IsTurnedAway old new counted = (new ≡ old) × (counted ≡ Refused)

-- a plan line: its commit, or the begin or the planning was refused
abbrev pub IsPlannedIn : Setting → (old new : SeatValue) → (at : ℕ) → Counted → Type 0
IsPlannedIn setting old new at counted = IsCommitted setting old new at counted ⊎ IsTurnedAway old new counted

-- a begin counts where it is refused; else the problem of a version was begun, and it counts nowhere
abbrev pub IsBegunIn : Setting → (old new : SeatValue) → (at : ℕ) → Counted → Type 0
IsBegunIn setting old new at counted = (new ≡ old) × ((counted ≡ Refused) ⊎ ((counted ≡ Nowhere) × (snap : SnapValue) × IsSnapAt setting (count_of old) at snap))

-- what a command does at a seat, and what its line counts as; a sheet counts nowhere
abbrev pub IsTakenIn : Setting → (old new : SeatValue) → Command → Counted → Type 0
IsTakenIn setting old new (command.Event event) counted = IsSubmitted setting old new event counted
IsTakenIn setting old new (command.Begin at) counted = IsBegunIn setting old new at counted
IsTakenIn setting old new (command.Plan at) counted = IsPlannedIn setting old new at counted
IsTakenIn setting old new command.Sheet counted = (new ≡ old) × (counted ≡ Nowhere)

-- ---- lines

-- A line that is read so: what its command asks for is taken in. A line that is no command is turned away, and so is one
-- for whose reading memory is refused, which may be any.
abbrev pub IsReadIn : Setting → (old new : SeatValue) → Result Command LineFault → Counted → Type 0
IsReadIn setting old new (Ok asked) counted = IsTakenIn setting old new asked counted ⊎ IsTurnedAway old new counted
IsReadIn setting old new (Err fault) counted = IsTurnedAway old new counted

-- what a line that isn't blank does at a seat, and what it counts as
abbrev pub IsLineTaken : Setting → (old new : SeatValue) → (line : List ℕ) → Counted → Type 0
IsLineTaken setting old new line counted = IsReadIn setting old new (command_of line) counted

-- Lines, one after the other, take a seat from one state to another, and this is what each counts as that isn't blank. A
-- blank line does nothing.
pub data AreTaken (setting : Setting) : (old new : SeatValue) → (lines : List (List ℕ)) → List Counted → Type 0 where
  no_line : {seat : SeatValue} → AreTaken setting seat seat [] []
  blank_line : {old new : SeatValue} {line : List ℕ} {lines : List (List ℕ)} {counts : List Counted} → is_blank line ≡ true → AreTaken setting old new lines counts → AreTaken setting old new (line ∷ lines) counts
  one_line : {old new : SeatValue} {line : List ℕ} {lines : List (List ℕ)} {counts : List Counted} (between : SeatValue) (counted : Counted) → is_blank line ≡ false → IsLineTaken setting old between line counted
      → AreTaken setting between new lines counts → AreTaken setting old new (line ∷ lines) (counted ∷ counts)

-- ---- files

-- These lines of the bytes that were read, each with its line feed, are those before a stop of this number: nothing was
-- read (1), a byte of line 1,000,001 was read (91), the next line has over 65,536 bytes (92), or its end wasn't read (93).
pub record IsStoppedAt (code : ℕ) (read : List ℕ) (lines : List (List ℕ)) : Type 0 where
  pub rest : List ℕ
  pub begins : BeginsWith read lines rest
  pub memory : code ≡ 1 → (read ≡ []) × (lines ≡ [])
  pub many : code ≡ 91 → (length lines ≡ max_input_lines) × (0 < length rest)
  pub long : code ≡ 92 → max_line_bytes < length (first_line rest)
  pub unread : code ≡ 93 → has_feed rest ≡ false

-- The lines of a file that were done: all of them, or those before what stopped the file. The file's bytes are those that
-- its reader tells before the first line, and those that it still has are told after the last, where it tells them.
pub record AreDone (told left : Option (List ℕ)) (failed : Option ℕ) (lines : List (List ℕ)) : Type 0 where
  pub read : List ℕ
  pub consumed : Consumes told left read
  pub which : MatchOption failed (IsAtEnd left × (lines ≡ lines_of read)) (λ code. IsStoppedAt code read lines)
  pub few : length lines ≤ max_input_lines

-- What a file's lines did at a seat: those that were done took it there from a new seat, which has a receipt for each that
-- counts as accepted, and so many count as repeated and as refused. These are what each line counts as.
pub record IsSeatFed (setting : Setting) (told left : Option (List ℕ)) (failed : Option ℕ) (counts : List Counted) (seat : SeatValue) (repeated refused : ℕ) : Type 0 where
  pub lines : List (List ℕ)
  pub done : AreDone told left failed lines
  pub number : ℕ
  pub taken : AreTaken setting (new_seat number) seat lines counts
  pub counts_accepted : count_of seat ≡ count_by is_accepted counts
  pub counts_repeated : repeated ≡ count_by is_repeated counts
  pub counts_refused : refused ≡ count_by is_refused counts
