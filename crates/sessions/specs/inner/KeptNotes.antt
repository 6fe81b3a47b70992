-- What the book behind the lock keeps of its notes.
use Rattle.std.specs.Prelude.{◌≡◌, ℕ, false, List, [], ◌++◌, Some, slice_get, slice_set, string_bytes}
use Rattle.commit_book.specs.BookStep.{IsCall}
use Rattle.commit_book.specs.Books.{BookValue}
use Rattle.commit_book.specs.declared.answer.Answer.{Answer}
use Rattle.commit_book.specs.declared.call.Call.TheVariants as call
use Rattle.move_messages.specs.declared.event.Event.{Event}
use Rattle.reply_texts.specs.Lines.{Adds, AreLines}
use Rattle.journal_notes.specs.EventBefore.{IsBefore}
use Rattle.journal_notes.specs.EventNotes.{office_of}
use Rattle.journal_notes.specs.Heard.{heard_by_event}
use Rattle.journal_notes.specs.NoteLines.{IsNoteLine}
use Rattle.journal_notes.specs.NotedJournal.{ahead_of_event}
use Rattle.journal_notes.specs.Watches.{IsWatchOf}
use Rattle.journal_notes.specs.declared.event_before.EventBefore.{EventBefore}
use Rattle.journal_notes.specs.declared.heard.Heard.{Heard}
use Rattle.journal_notes.specs.declared.note.Note.{Note}
use Rattle.sessions.specs.FeedNotes.{AreNotedFrom, EventLine, heard_in}
use Rattle.sessions.specs.declared.kept_notes.FileLine.{FileLine}
use Rattle.sessions.specs.declared.kept_notes.KeptNotes.{KeptNotes}

-- the last two messages of each file among these lines
abbrev pub AreHeard : List EventLine → List Heard → Type 0
AreHeard lines files = (file : ℕ) (heard : Heard) → slice_get files file ≡ Some heard → heard ≡ heard_in file lines

-- what is kept after these lines
pub record AreKeptAfter (book : BookValue) (kept : KeptNotes) : Type 0 where
  pub first : BookValue
  pub no_entry : first.state.history ≡ []
  pub own : first.setting ≡ book.setting
  pub lines : List EventLine
  pub noted : AreNotedFrom first lines book kept.watch.streaks (string_bytes kept.text)
  pub heard : AreHeard lines kept.heard.items
  pub watch : IsWatchOf (office_of book) kept.watch

-- What is kept of a book that runs on these networks. Where memory was refused for a line, nothing is known of the notes.
pub record AreKept (book : BookValue) (kept : KeptNotes) : Type 0 where
  pub networks : kept.networks.items ≡ book.setting.networks
  pub whole : kept.is_lost ≡ false → AreKeptAfter book kept

-- ---- one event more

-- The notes of an event of a line are written behind the others: its own, and the one of the message before it in its file.
pub record AreWritten (old : KeptNotes) (from : FileLine) (happens : Event) (said : List Note) (new : KeptNotes) : Type 0 where
  pub before : Heard
  pub was : slice_get old.heard.items from.file ≡ Some before
  pub heard : new.heard.items ≡ slice_set old.heard.items from.file (heard_by_event from.line before happens)
  pub text : Adds (AreLines (IsNoteLine (Some from.file) from.line) (said ++ ahead_of_event before happens)) (string_bytes old.text) (string_bytes new.text)

-- Wherever this was what the notes need of a book, and what was kept of it, and the answer leads from it to the book now, what is
-- kept now is of the book now.
abbrev pub IsNotedBehind : (old : KeptNotes) → FileLine → Event → EventBefore → Answer → (now : BookValue) → (new : KeptNotes) → Type 0
IsNotedBehind old from happens before answer now new =
    (book : BookValue) → AreKept book old → IsBefore old.networks.items (office_of book) happens before → now.setting ≡ book.setting
    → IsCall book.setting book.state (call.Event happens) answer now.state → AreKept now new
