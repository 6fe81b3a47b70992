-- A run over command lines that writes what a person should hear of beside the replies.
use Rattle.std.specs.Prelude.{◌≡◌, ◌⊎◌, ℕ, Bool, List, None}
use Rattle.line_engine.specs.Replies.{Numbered}
use Rattle.line_engine.specs.declared.device.Sink.{Ghosts}
use Rattle.journal_notes.specs.NoteLines.{memory_line}
use Rattle.journal_notes.specs.NotedJournal.{IsBroughtInPart, IsNoted, JournalValue}
use Rattle.office.specs.CommandReplies.{LineRunsOutOfMemory, RepliesToLine}
use Rattle.office.specs.NoteSinks.{IsWritten}
use Rattle.office.specs.declared.noted_runs.NotedBook.{NotedBook}

-- The notes of a line that isn't blank, as lines, by the books before and after it; or memory was refused for them, or for the line.
abbrev pub AreNotesOfLine : (line : ℕ) → JournalValue → (bytes text : List ℕ) → JournalValue → Type 0
AreNotesOfLine line old bytes text new = IsNoted line old bytes text new ⊎ (IsBroughtInPart old.book bytes new.book × (text ≡ memory_line None line))

-- What a noted run does with a line that isn't blank: its reply is that of a run, and its notes are written to the sink of notes.
pub record WritesBoth {N : Type 0} (writing : Ghosts N) (n : ℕ) (old : NotedBook N) (line text : List ℕ) (refused : Bool) (new : NotedBook N) : Type 0 where
  pub reply : Numbered RepliesToLine LineRunsOutOfMemory n old.kept.book line text refused new.kept.book
  pub added : List ℕ
  pub notes : AreNotesOfLine n old.kept line added new.kept
  pub written : IsWritten writing n added old.notes new.notes
