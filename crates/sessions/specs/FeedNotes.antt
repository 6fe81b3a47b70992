-- The notes of a feed: those of the lines that led to its book, each with the number of its file and of its line.
use Rattle.std.specs.Prelude.{◌≡◌, ◌==◌, ℕ, if◌then◌else◌, List, [], ◌∷◌, ◌++◌, Some}
use Rattle.commit_book.specs.Books.{BookValue}
use Rattle.commit_book.specs.declared.call.Call.TheVariants as call
use Rattle.move_messages.specs.declared.event.Event.{Event}
use Rattle.reply_texts.specs.Lines.{AreLines}
use Rattle.journal_notes.specs.EventNotes.{CallsTo, IsNotedEvent}
use Rattle.journal_notes.specs.Heard.{heard_by_event, nothing_heard}
use Rattle.journal_notes.specs.NoteLines.{IsNoteLine}
use Rattle.journal_notes.specs.NotedJournal.{ahead_of_event}
use Rattle.journal_notes.specs.Streaks.{StreaksValue}
use Rattle.journal_notes.specs.declared.heard.Heard.{Heard}
use Rattle.journal_notes.specs.declared.note.Note.{Note}

-- a line of a file, and its event
pub record EventLine : Type 0 where
  pub file : ℕ
  pub line : ℕ
  pub event : Event

-- the last two messages of a file among these lines, of which the latest comes first
abbrev pub heard_in : (file : ℕ) → List EventLine → Heard
heard_in file [] = nothing_heard
heard_in file (this ∷ earlier) = if this.file == file then heard_by_event this.line (heard_in file earlier) this.event else heard_in file earlier

-- The lines lead from a book to another, the latest line first, and each event is a step of the book. These are the streaks by then,
-- and the text has the lines of all notes: of each event its own and the one of the message before it in its file, in the order
-- in which the book answered. A begin may come between; it has no note.
pub data AreNotedFrom (first : BookValue) : List EventLine → BookValue → StreaksValue → (text : List ℕ) → Type 0 where
  no_line : AreNotedFrom first [] first [] []
  one_line : {this : EventLine} {earlier : List EventLine} {old new : BookValue} {before after : StreaksValue} {said : List Note} {text added : List ℕ}
      → AreNotedFrom first earlier old before text → IsNotedEvent old before this.event said new after
      → AreLines (IsNoteLine (Some this.file) this.line) (said ++ ahead_of_event (heard_in this.file earlier) this.event) added
      → AreNotedFrom first (this ∷ earlier) new after (text ++ added)
  a_begin : {lines : List EventLine} {old new : BookValue} {streaks : StreaksValue} {text : List ℕ} {at : ℕ}
      → AreNotedFrom first lines old streaks text → CallsTo old (call.Begin at) new → AreNotedFrom first lines new streaks text

-- the text has the notes of all lines that led to this book from one of the same setting without entries
pub record AreFeedNotes (book : BookValue) (text : List ℕ) : Type 0 where
  pub first : BookValue
  pub no_entry : first.state.history ≡ []
  pub own : first.setting ≡ book.setting
  pub lines : List EventLine
  pub streaks : StreaksValue
  pub noted : AreNotedFrom first lines book streaks text
