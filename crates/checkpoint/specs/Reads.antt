-- What reading a checkpoint answers.
use Rattle.std.specs.Prelude.{◌≡◌, ◌<◌, ◌≤◌, ◌+◌, ℕ, Bool, true, false, List, ◌∷◌, ◌++◌, length, Option, Ok, Err}
use Rattle.std.specs.Io.KnownBytes.{Consumes, IsAtEnd}
use Rattle.std.specs.List.{AllByRecursion}
use Rattle.line_engine.specs.Lines.{BeginsWith, IsWithin, first_line, has_feed, lines_of, max_input_lines, max_line_bytes}
use Rattle.line_engine.specs.declared.run.RunFault.{RunFault}
use Rattle.line_engine.specs.declared.run.RunFault.TheVariants.{OutOfMemory, TooManyLines, LineTooLong, ReadFailed, WriteFailed}
use Rattle.line_fields.specs.declared.fault.LineFault.{LineFault}
use Rattle.operating_db.specs.State.{StateValue}
use Rattle.checkpoint.specs.LineReading.{checkpoint_line_of}
use Rattle.checkpoint.specs.Checkpoint.{IsCheckpointOf}
use Rattle.checkpoint.specs.OfficeOf.{office_of_lines}
use Rattle.checkpoint.specs.declared.read_fault.ReadFault.{ReadFault}
use Rattle.checkpoint.specs.declared.read_fault.ReadFault.TheVariants.{Line, Run, Unread}

-- The bytes that a reader has left before and after reading, where they are known, and whether it has failed by then.
pub record Bytes : Type 0 where
  pub from : Option (List ℕ)
  pub to : Option (List ℕ)
  pub failed : Bool

-- the same by what is known of a reader's bytes and failures, before and after reading
abbrev pub bytes_read : {R : Type 0} → (R → Option (List ℕ)) → (R → Bool) → (old new : R) → Bytes
bytes_read {R} remaining has_failed old new = record { from = remaining old; to = remaining new; failed = has_failed new }

-- the reader was read to its end; these are the bytes
pub record IsWholeInput (bytes : Bytes) (input : List ℕ) : Type 0 where
  pub consumed : Consumes bytes.from bytes.to input
  pub ended : IsAtEnd bytes.to

-- All that the reader had left is a checkpoint, and this is the state of its office.
pub record IsReadAs (bytes : Bytes) (networks : ℕ) (state : StateValue) : Type 0 where
  pub input : List ℕ
  pub whole : IsWholeInput bytes input
  pub office : office_of_lines networks (lines_of input) ≡ Ok state.office
  pub exact : IsCheckpointOf networks (lines_of input) state.office
  pub networks_are : state.networks ≡ networks

-- Reading stands before line number n: what was read are the lines before it, each of at most 65,536 bytes, and the rest.
pub record StandsBefore (bytes : Bytes) (n : ℕ) : Type 0 where
  pub input : List ℕ
  pub lines : List (List ℕ)
  pub rest : List ℕ
  pub consumed : Consumes bytes.from bytes.to input
  pub begins : BeginsWith input lines rest
  pub number : n ≡ length lines + 1
  pub short : AllByRecursion (IsWithin max_line_bytes) lines

-- Why the lines weren't read to their end: memory was out; a byte of line 1,000,001 was read; a line has over 65,536 bytes; or
-- the reader failed before a line's end.
abbrev pub IsStopped : Bytes → RunFault → Type 0
IsStopped bytes OutOfMemory = Unit {0}
IsStopped bytes (TooManyLines n) = (at : StandsBefore bytes n) × (n ≡ max_input_lines + 1) × (0 < length at.rest)
IsStopped bytes (LineTooLong n) = (at : StandsBefore bytes n) × (n ≤ max_input_lines) × (max_line_bytes < length (first_line at.rest))
IsStopped bytes (ReadFailed n) = (at : StandsBefore bytes n) × (has_feed at.rest ≡ false) × (bytes.failed ≡ true)
IsStopped bytes (WriteFailed n) = ⊥

-- Line number n of these can't be read as any line of a checkpoint, and this is its first fault.
pub record IsUnread (lines : List (List ℕ)) (n : ℕ) (fault : LineFault) : Type 0 where
  pub before : List (List ℕ)
  pub line : List ℕ
  pub later : List (List ℕ)
  pub whole : lines ≡ before ++ line ∷ later
  pub number : n ≡ length before + 1
  pub reads : checkpoint_line_of line ≡ Err fault

-- Why no checkpoint was read: the lines weren't read to their end, or memory was out; or this is the first fault of the lines,
-- and where a line can't be read, the first fault of that line.
abbrev pub IsRefused : Bytes → (networks : ℕ) → ReadFault → Type 0
IsRefused bytes networks (Run fault) = IsStopped bytes fault
IsRefused bytes networks (Line fault) = (input : List ℕ) × IsWholeInput bytes input × (office_of_lines networks (lines_of input) ≡ Err (Line fault))
IsRefused bytes networks (Unread n fault) =
    (input : List ℕ) × IsWholeInput bytes input × (office_of_lines networks (lines_of input) ≡ Err (Unread n fault)) × IsUnread (lines_of input) n fault
