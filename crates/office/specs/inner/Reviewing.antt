-- A line that is reviewed, in its parts: how it is brought to the book, and the notes that stand last.
use Rattle.std.specs.Prelude.{ℕ, Bool, List, ◌++◌, length, MatchResult, Result}
use Rattle.std.specs.declared.alloc.AllocError.{AllocError}
use Rattle.commit_book.specs.Books.{BookValue}
use Rattle.office.specs.CommandReplies.{LineRunsOutOfMemory, RepliesToLine}
use Rattle.office.specs.Fullness.{entries_note, lines_note}
use Rattle.office.specs.declared.reviewing.Counts.{Counts}

-- the line is brought to the book as a run does, up to where memory is refused
abbrev pub IsBrought : {A : Type 0} → (line : List ℕ) → (old new : BookValue) → Result A AllocError → Type 0
IsBrought line old new result =
    MatchResult result (λ _. (reply : List ℕ) × (refused : Bool) × RepliesToLine old line reply refused new) (λ _. LineRunsOutOfMemory old line new)

-- a text and, behind it, the notes that the book or the run has become nine tenths full since there were so many entries and lines
abbrev pub with_fullness_notes : (text : List ℕ) → (line : ℕ) → (before : Counts) → BookValue → List ℕ
with_fullness_notes text line before book =
    text ++ entries_note line before.entries (length book.state.history) book.setting.entries ++ lines_note line before.lines
