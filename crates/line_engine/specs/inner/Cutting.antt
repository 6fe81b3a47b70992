-- What cutting one line off an input does to the bytes that were read and not yet cut.
use Rattle.std.specs.Prelude.{◌≡◌, ℕ, ◌+◌, ◌<◌, Bool, true, false, List, [], ◌∷◌, ◌++◌, length, MatchResult, Result}
use Rattle.std.specs.Io.KnownBytes.{Consumes, IsAtEnd}
use Rattle.line_engine.specs.Lines.{line_feed, has_feed, first_line}
use Rattle.line_engine.specs.declared.device.Source.{Ghosts}
use Rattle.line_engine.specs.declared.window.LineEnd.{LineEnd}
use Rattle.line_engine.specs.declared.window.LineEnd.TheVariants.{Feed, Input}
use Rattle.line_engine.specs.declared.window.LineStop.{LineStop}
use Rattle.line_engine.specs.declared.window.LineStop.TheVariants.{TooLong, ReadFailed}
use Rattle.line_engine.specs.inner.BufferedLine.{BufferedLine}

-- The bytes up to the next line feed have gone from old to the line's end: all of old where it has none.
abbrev pub Moves : List ℕ → List ℕ → List ℕ → List ℕ → Bool → Type 0
Moves old new line grown true = (front : List ℕ) × (old ≡ front ++ line_feed ∷ new) × (has_feed front ≡ false) × (grown ≡ line ++ front)
Moves old new line grown false = (new ≡ []) × (has_feed old ≡ false) × (grown ≡ line ++ old)

-- why nothing was moved: the line and these bytes up to the next line feed are more than a line may have
abbrev pub GrowsTooLong : (line : BufferedLine) → List ℕ → LineStop → Type 0
GrowsTooLong line bytes stop = (stop ≡ TooLong) × (front : List ℕ) × (rest : List ℕ) × (bytes ≡ front ++ rest)
    × (has_feed front ≡ false) × (line.most < length line.bytes + length front)

-- old and what was taken off the reader are the line, with what ended it, and new
abbrev pub CutsLine : List ℕ → List ℕ → List ℕ → List ℕ → LineEnd → Type 0
CutsLine old taken line new Feed = (old ++ taken ≡ line ++ line_feed ∷ new) × (has_feed line ≡ false)
CutsLine old taken line new Input = (old ++ taken ≡ line) × (new ≡ []) × (has_feed line ≡ false) × (0 < length line)

-- Why no line was cut off these bytes: their first line is longer than a line may be, or the reader failed before its end.
abbrev pub StopsLine : (most : ℕ) → List ℕ → Bool → LineStop → Type 0
StopsLine most bytes has_failed TooLong = most < length (first_line bytes)
StopsLine most bytes has_failed ReadFailed = (has_feed bytes ≡ false) × (has_failed ≡ true)

-- What reading one line has taken off a reader, and done to the bytes that were read and not yet cut: the line was cut off
-- them, and where no line feed ends it the reader is at its end; or it could not be.
abbrev pub ReadsLine : {R : Type 0} → Ghosts R → (most : ℕ) → (before after : R × List ℕ) → (line : List ℕ) → Result LineEnd LineStop → Type 0
ReadsLine reading most before after line result = (taken : List ℕ) × Consumes (reading.remaining before.0) (reading.remaining after.0) taken
    × MatchResult result (λ end. CutsLine before.1 taken line after.1 end × (end ≡ Input → IsAtEnd (reading.remaining after.0)))
    (λ stop. StopsLine most (before.1 ++ taken) (reading.has_failed after.0) stop)
