-- What is written to a sink of notes.
use Rattle.std.specs.Prelude.{◌≡◌, ◌⊎◌, ℕ, Bool, true, false, ◌||◌, List, [], ◌∷◌, ◌++◌, None, Some, is_some, MatchBool}
use Rattle.std.specs.Io.KnownBytes.{Appends}
use Rattle.line_engine.specs.declared.device.Sink.{Ghosts}
use Rattle.office.specs.declared.note_sink.NoteSink.{NoteSink}

-- a part of these bytes was written, and the sink has failed
abbrev pub WritesPart : {N : Type 0} → Ghosts N → (old new : N) → (bytes : List ℕ) → Type 0
WritesPart writing old new bytes = (part : List ℕ) × (rest : List ℕ) × (bytes ≡ part ++ rest)
    × Appends (writing.contents old) (writing.contents new) part × (writing.has_failed new ≡ true)

abbrev pub is_none : List ℕ → Bool
is_none [] = true
is_none (byte ∷ bytes) = false

-- all of them were written
pub record IsWhole {N : Type 0} (writing : Ghosts N) (bytes : List ℕ) (old new : NoteSink N) : Type 0 where
  pub written : Appends (writing.contents old.sink) (writing.contents new.sink) bytes
  pub failure : new.first_failure ≡ None

-- the sink has failed at this line
pub record HasFailedAt {N : Type 0} (writing : Ghosts N) (line : ℕ) (bytes : List ℕ) (old new : NoteSink N) : Type 0 where
  pub written : WritesPart writing old.sink new.sink bytes
  pub failure : new.first_failure ≡ Some line

-- The notes of a line, where there are some, are written; nothing is once the sink has failed.
abbrev pub IsWritten : {N : Type 0} → Ghosts N → (line : ℕ) → (notes : List ℕ) → (old new : NoteSink N) → Type 0
IsWritten writing line notes old new =
    MatchBool (is_some old.first_failure || is_none notes) (new ≡ old) (IsWhole writing notes old new ⊎ HasFailedAt writing line notes old new)
