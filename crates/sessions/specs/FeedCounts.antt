-- What is counted of a file that was fed to a book.
use Rattle.std.specs.Prelude.{◌≡◌, ◌+◌, ◌<◌, ◌≤◌, ◌&&◌, ◌⊎◌, not, ℕ, Bool, true, false, List, [], ◌∷◌, Any, Option, Some, None, Result, Ok, Err, IfSome, length}
use Rattle.std.specs.List.{count_by}
use Rattle.std.specs.Io.KnownBytes.{Consumes, IsAtEnd}
use Rattle.line_fields.specs.declared.fault.LineFault.{LineFault}
use Rattle.line_engine.specs.Lines.{is_blank, lines_of, max_input_lines, max_line_bytes}
use Rattle.line_fields.specs.Commands.{command_of}
use Rattle.line_fields.specs.declared.command.Command.{Command}
use Rattle.line_fields.specs.declared.command.Command.TheVariants as command
use Rattle.move_messages.specs.declared.event.Event.{Event}
use Rattle.commit_book.specs.Setting.{Setting}
use Rattle.sessions.specs.Closing.{HasEntries}
use Rattle.sessions.specs.Seat.{SeatValue, count_of}
use Rattle.sessions.specs.FedLines.{IsSeatFed}
use Rattle.sessions.specs.declared.feed_lines.Counted.{Counted}
use Rattle.sessions.specs.declared.feed_report.FileCount.{FileCount}

-- whether a command must be counted: an event and a plan, but no begin and no sheet
abbrev pub is_command_counted : Command → Bool
is_command_counted (command.Event event) = true
is_command_counted (command.Plan at) = true
is_command_counted (command.Begin at) = false
is_command_counted command.Sheet = false

-- the same of a line that is read so; one that is no command must be counted
abbrev pub is_counted : Result Command LineFault → Bool
is_counted (Ok asked) = is_command_counted asked
is_counted (Err fault) = true

-- a line that is neither blank nor a begin nor a sheet
abbrev pub must_count : List ℕ → Bool
must_count line = not (is_blank line) && is_counted (command_of line)

-- a line that isn't blank
abbrev pub may_count : List ℕ → Bool
may_count line = not (is_blank line)

-- the numbers that stop a file: its memory, too many lines, a line too long, its reader
abbrev pub IsStopNumber : ℕ → Type 0
IsStopNumber code = (code ≡ 1) ⊎ ((code ≡ 91) ⊎ ((code ≡ 92) ⊎ (code ≡ 93)))

-- What holds of a file's run over the bytes that its reader tells, if it does: what the reader has left, how many lines
-- were counted, what stopped it, and whether the reader has failed by then.
pub record IsFileRun (told left : Option (List ℕ)) (tally : ℕ) (failed : Option ℕ) (has_failed : Bool) : Type 0 where
  -- the reader has the rest of the file's bytes left, and none where it was read to its end
  pub rest : (read : List ℕ) × Consumes told left read
  pub ended : failed ≡ None → IsAtEnd left
  -- a file that was read to its end: each line counts that must, and none but those that may
  pub all : (bytes : List ℕ) → told ≡ Some bytes → failed ≡ None → count_by must_count (lines_of bytes) ≤ tally
  pub only : (bytes : List ℕ) → told ≡ Some bytes → failed ≡ None → tally ≤ count_by may_count (lines_of bytes)
  pub number : IfSome failed IsStopNumber
  pub too_many : (bytes : List ℕ) → told ≡ Some bytes → failed ≡ Some 91 → max_input_lines < length (lines_of bytes)
  pub too_long : (bytes : List ℕ) → told ≡ Some bytes → failed ≡ Some 92 → Any (λ line. max_line_bytes < length line) (lines_of bytes)
  pub unread : failed ≡ Some 93 → has_failed ≡ true

-- a file's seat behind the file's last line, and what each line counts as that isn't blank
pub record FileAnswers : Type 0 where
  pub seat : SeatValue
  pub counts : List Counted

-- What became of a file over this reader, where readers tell their bytes and their failures so: its run, and what its lines
-- did at a seat of a shared book of this setting whose every receipt is an entry of this history.
pub record IsFed {R : Type 0} (setting : Setting) (history : List Event) (remaining : R → Option (List ℕ)) (has_failed : R → Bool) (reader : R) (answers : FileAnswers) (file : FileCount R) : Type 0 where
  pub run : IsFileRun (remaining reader) (remaining file.reader) (file.accepted + file.repeated + file.refused) file.failed (has_failed file.reader)
  pub lines : IsSeatFed setting (remaining reader) (remaining file.reader) file.failed answers.counts answers.seat file.repeated file.refused
  pub accepted : file.accepted ≡ count_of answers.seat
  pub entries : HasEntries history answers.seat

-- so of each file, with the answers of each
abbrev pub AreFed : {R : Type 0} → Setting → (history : List Event) → (remaining : R → Option (List ℕ)) → (has_failed : R → Bool) → List R → List FileAnswers → List (FileCount R) → Type 0
AreFed setting history remaining has_failed [] [] [] = Unit {0}
AreFed setting history remaining has_failed (reader ∷ readers) (its ∷ answers) (file ∷ files) = IsFed setting history remaining has_failed reader its file × AreFed setting history remaining has_failed readers answers files
AreFed setting history remaining has_failed readers answers files = ⊥
