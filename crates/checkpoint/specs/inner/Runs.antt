-- What a run over the lines of a checkpoint does.
use Rattle.std.specs.Prelude.{◌≡◌, ◌≤◌, ℕ, Bool, List, length, Result, Ok}
use Rattle.checkpoint.specs.declared.reading.LinesSoFar.{LinesSoFar}
use Rattle.checkpoint.specs.inner.Steps.{Follows, TakesFrom}
use Rattle.line_engine.specs.Lines.{lines_of, max_input_lines}
use Rattle.checkpoint.specs.OfficeOf.{with_lines}
use Rattle.checkpoint.specs.Parts.{PartsValue, no_parts}
use Rattle.checkpoint.specs.Reads.{Bytes, IsWholeInput}
use Rattle.checkpoint.specs.declared.read_fault.ReadFault.{ReadFault}

-- a line that isn't blank, number n of the file; nothing is said of the reply, which nobody reads
pub record TakesLine (n : ℕ) (old : LinesSoFar) (line text : List ℕ) (refused : Bool) (new : LinesSoFar) : Type 0 where
  pub same_networks : new.networks ≡ old.networks
  pub takes : TakesFrom old.networks n old.parts line new.parts

-- all lines were read, so many, and gave these parts or this fault
pub record AreAllRead (bytes : Bytes) (networks lines : ℕ) (parts : Result PartsValue ReadFault) : Type 0 where
  pub input : List ℕ
  pub whole : IsWholeInput bytes input
  pub counted : lines ≡ length (lines_of input)
  pub few : lines ≤ max_input_lines
  pub follows : Follows (with_lines networks 1 (Ok no_parts) (lines_of input)) parts
