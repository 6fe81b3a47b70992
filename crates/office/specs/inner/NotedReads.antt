-- What a noted run does with a line, by what the line is read as.
use Rattle.std.specs.Prelude.{◌≡◌, ◌⊎◌, ℕ, Bool, true, List, ◌∷◌, ◌++◌, None, Result, decimal}
use Rattle.line_engine.specs.Replies.{out_of_memory_body}
use Rattle.line_engine.specs.declared.device.Sink.{Ghosts}
use Rattle.line_fields.specs.declared.command.Command.{Command}
use Rattle.line_fields.specs.declared.fault.LineFault.{LineFault}
use Rattle.move_messages.specs.declared.event.Event.{Event}
use Rattle.reply_texts.specs.Lines.{AreLines}
use Rattle.journal_notes.specs.NoteLines.{IsNoteLine, memory_line}
use Rattle.journal_notes.specs.NotedJournal.{JournalValue, NotesEvent, NotesRead, ReadCalls}
use Rattle.journal_notes.specs.declared.note.Note.{Note}
use Rattle.office.specs.CommandReplies.{ReadLeaves, RepliesToRead}
use Rattle.office.specs.NoteSinks.{IsWritten}
use Rattle.office.specs.declared.noted_runs.NotedBook.{NotedBook}

-- the lines of the notes of an event, or memory was refused for them
abbrev pub AreEventLines : (line : ℕ) → JournalValue → Event → (text : List ℕ) → JournalValue → Type 0
AreEventLines line old happens text new = ((notes : List Note) × NotesEvent line old happens notes new × AreLines (IsNoteLine None line) notes text) ⊎ (text ≡ memory_line None line)

-- nothing but the book has changed
pub record KeepsNotes (old new : JournalValue) : Type 0 where
  pub streaks : new.streaks ≡ old.streaks
  pub heard : new.heard ≡ old.heard

abbrev pub AreReadLines : (line : ℕ) → JournalValue → Result Command LineFault → (text : List ℕ) → JournalValue → Type 0
AreReadLines line old read text new =
    ((notes : List Note) × NotesRead line old read notes new × AreLines (IsNoteLine None line) notes text)
    ⊎ (((new.book ≡ old.book) ⊎ ReadCalls old.book read new.book) × (text ≡ memory_line None line))

-- the reply and the notes of a line that was read so
pub record TakesRead {N : Type 0} (writing : Ghosts N) (n : ℕ) (old : NotedBook N) (read : Result Command LineFault) (text : List ℕ) (refused : Bool) (new : NotedBook N) : Type 0 where
  pub body : List ℕ
  pub reply : RepliesToRead old.kept.book read body refused new.kept.book ⊎ (ReadLeaves old.kept.book read new.kept.book × (body ≡ out_of_memory_body) × (refused ≡ true))
  pub whole : text ≡ decimal n ++ 32 ∷ body
  pub added : List ℕ
  pub notes : AreReadLines n old.kept read added new.kept
  pub written : IsWritten writing n added old.notes new.notes
