-- Lines that are written: each is what it must be, and reads back.
use Rattle.std.specs.Prelude.{◌≡◌, ℕ, List, ◌++◌, Ok}
use Rattle.line_engine.specs.Lines.{with_feeds}
use Rattle.checkpoint.specs.LineReading.{checkpoint_line_of}
use Rattle.checkpoint.specs.LineWriting.{IsOneLine}
use Rattle.checkpoint.specs.declared.line.CheckpointLine.{CheckpointLine}
use Rattle.checkpoint.specs.Written.{AreLinesOf}

-- one line, which isn't blank, and reads as this
pub record SaysLine (said : CheckpointLine) (line : List ℕ) : Type 0 where
  pub reads : checkpoint_line_of line ≡ Ok said
  pub one : IsOneLine line

-- a line that is what it must be, and reads as what is said of x
pub record IsLineOf {A : Type 0} (is_line : A → List ℕ → Type 0) (say : A → CheckpointLine) (x : A) (line : List ℕ) : Type 0 where
  pub text : is_line x line
  pub says : SaysLine (say x) line

-- a text grew by one line for each of these, each with its line feed
abbrev pub AddsLines : {A : Type 0} → (A → List ℕ → Type 0) → (A → CheckpointLine) → List A → (old new : List ℕ) → Type 0
AddsLines {A} is_line say xs old new =
    (lines : List (List ℕ)) × AreLinesOf (IsLineOf is_line say) xs lines × (new ≡ old ++ with_feeds lines)
