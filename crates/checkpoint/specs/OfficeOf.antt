-- The office that the lines of a file say, or the first fault.
use Rattle.std.specs.Prelude.{ℕ, ◌+◌, Bool, true, false, if◌then◌else◌, List, [], ◌∷◌, length, Option, Some, None, Result, Ok, Err}
use Rattle.faults.specs.declared.faults.CheckpointFault.TheVariants.{CheckpointCut}
use Rattle.line_engine.specs.Lines.{is_blank}
use Rattle.operating_db.specs.Office.{Office}
use Rattle.checkpoint.specs.Parts.{PartsValue, no_parts}
use Rattle.checkpoint.specs.Taking.{Taken, take_line}
use Rattle.checkpoint.specs.declared.read_fault.ReadFault.{ReadFault}
use Rattle.checkpoint.specs.declared.read_fault.ReadFault.TheVariants.{Line}

-- one line more, number n of the file; a blank one is skipped, and the first fault stays
abbrev pub with_line : (networks n : ℕ) → Taken → (line : List ℕ) → Taken
with_line networks n (Err fault) line = Err fault
with_line networks n (Ok parts) line = if is_blank line then Ok parts else take_line networks n parts line

-- more lines, from number n on
abbrev pub with_lines : (networks n : ℕ) → Taken → List (List ℕ) → Taken
with_lines networks n taken [] = taken
with_lines networks n taken (line ∷ lines) = with_lines networks (n + 1) (with_line networks n taken line) lines

-- the office of parts with a head and a last line; else the file is cut off before line n
abbrev pub closed : (n : ℕ) → PartsValue → (network : Option ℕ) → (ended : Bool) → Result Office ReadFault
closed n parts (Some network) true = Ok (record { wagons = parts.wagons; orders = parts.orders; network = network })
closed n parts (Some network) false = Err (Line (CheckpointCut n))
closed n parts None ended = Err (Line (CheckpointCut n))

abbrev pub office_of_taken : (n : ℕ) → Taken → Result Office ReadFault
office_of_taken n (Err fault) = Err fault
office_of_taken n (Ok parts) = closed n parts parts.network parts.ended

-- the office that all lines of a file say, where there are so many networks; or the first fault
unfoldable pub office_of_lines : (networks : ℕ) → List (List ℕ) → Result Office ReadFault
office_of_lines networks lines = office_of_taken (length lines + 1) (with_lines networks 1 (Ok no_parts) lines)
