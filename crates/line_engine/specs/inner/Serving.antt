-- What serving one line of a run does to the writer and the state.
use Rattle.std.specs.Prelude.{◌≡◌, ℕ, Bool, true, List, ◌++◌}
use Rattle.std.specs.Io.KnownBytes.{Appends}
use Rattle.line_engine.specs.Replies.{Replying, ServesLine}
use Rattle.line_engine.specs.declared.device.Sink.{Ghosts}

-- a part of these bytes was written, and the writer has failed
abbrev pub WritesPart : {W : Type 0} → Ghosts W → (old new : W) → (bytes : List ℕ) → Type 0
WritesPart writing old new bytes = (part : List ℕ) × (rest : List ℕ) × (bytes ≡ part ++ rest)
    × Appends (writing.contents old) (writing.contents new) part × (writing.has_failed new ≡ true)

-- what line number n adds to the output, a refusal or not, was written
abbrev pub IsServed : {W H : Type 0} → Replying H → Ghosts W → ℕ → (line : List ℕ) → (before after : W × H) → (refused : Bool) → Type 0
IsServed replying writing n line before after refused = (text : List ℕ) × ServesLine replying n before.1 line text refused after.1
    × Appends (writing.contents before.0) (writing.contents after.0) text

-- a part of it was written, and the writer has failed
abbrev pub IsServedInPart : {W H : Type 0} → Replying H → Ghosts W → ℕ → (line : List ℕ) → (before after : W × H) → Type 0
IsServedInPart replying writing n line before after = (text : List ℕ) × (refused : Bool) × ServesLine replying n before.1 line text refused after.1
    × WritesPart writing before.0 after.0 text
