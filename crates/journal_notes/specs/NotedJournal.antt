-- What the notes of a journal have come to, and what a line adds to them.
use Rattle.std.specs.Prelude.{◌≡◌, ◌⊎◌, ℕ, Bool, true, nat_lt, List, [], ◌++◌, length, None, Result, Ok, Err}
use Rattle.commit_book.specs.BookStep.{IsStep}
use Rattle.commit_book.specs.Books.{BookValue}
use Rattle.commit_book.specs.declared.answer.Answer.TheVariants.{Begun}
use Rattle.commit_book.specs.declared.call.Call.TheVariants as call
use Rattle.line_fields.specs.Commands.{command_of}
use Rattle.line_fields.specs.declared.command.Command.{Command}
use Rattle.line_fields.specs.declared.command.Command.TheVariants as command
use Rattle.line_fields.specs.declared.fault.LineFault.{LineFault}
use Rattle.move_messages.specs.declared.event.Event.{Event}
use Rattle.move_messages.specs.declared.event.Event.TheVariants as event
use Rattle.reply_texts.specs.Lines.{AreLines}
use Rattle.journal_notes.specs.EventNotes.{CallsTo, IsNotedEvent}
use Rattle.journal_notes.specs.Heard.{ahead_notes, heard_by_event, nothing_heard}
use Rattle.journal_notes.specs.NoteLines.{IsNoteLine, memory_line}
use Rattle.journal_notes.specs.Streaks.{StreaksValue}
use Rattle.journal_notes.specs.declared.heard.Heard.{Heard}
use Rattle.journal_notes.specs.declared.note.Note.{Note}

-- What the notes of a journal have come to: the book; the messages of each wagon that were refused in a row; and the last two
-- messages.
pub record JournalValue : Type 0 where
  pub book : BookValue
  pub streaks : StreaksValue
  pub heard : Heard

-- of a book, before the first line
abbrev pub first_journal : BookValue → JournalValue
first_journal book = record { book = book; streaks = []; heard = nothing_heard }

-- ---- lines

-- the note, at an event, that the message before it is ahead: only a message has one
abbrev pub ahead_of_event : Heard → Event → List Note
ahead_of_event heard (event.Message message) = ahead_notes heard message.moment
ahead_of_event heard (event.Place order) = []
ahead_of_event heard (event.Withdraw id) = []
ahead_of_event heard (event.Commit commit) = []
ahead_of_event heard (event.Revise network) = []

-- a line with an event: it is brought to the book, and its notes are those of the event, and the one of the message before it
pub record NotesEvent (line : ℕ) (old : JournalValue) (happens : Event) (notes : List Note) (new : JournalValue) : Type 0 where
  pub said : List Note
  pub noted : IsNotedEvent old.book old.streaks happens said new.book new.streaks
  pub heard : new.heard ≡ heard_by_event line old.heard happens
  pub whole : notes ≡ said ++ ahead_of_event old.heard happens

-- a begin is a step of the book, and has no note
pub record NotesBegin (old : JournalValue) (at : ℕ) (notes : List Note) (new : JournalValue) : Type 0 where
  pub step : IsStep old.book.setting old.book.state (call.Begin at) (Begun (length old.book.state.history)) new.book.state
  pub setting : new.book.setting ≡ old.book.setting
  pub streaks : new.streaks ≡ old.streaks
  pub heard : new.heard ≡ old.heard
  pub none : notes ≡ []

-- a plan is a begin here, since planning changes nothing; a sheet does nothing
abbrev pub NotesCommand : (line : ℕ) → JournalValue → Command → List Note → JournalValue → Type 0
NotesCommand line old (command.Event happens) notes new = NotesEvent line old happens notes new
NotesCommand line old (command.Begin at) notes new = NotesBegin old at notes new
NotesCommand line old (command.Plan at) notes new = NotesBegin old at notes new
NotesCommand line old command.Sheet notes new = (notes ≡ []) × (new ≡ old)

-- a line that is no command has no note and does nothing
abbrev pub NotesRead : (line : ℕ) → JournalValue → Result Command LineFault → List Note → JournalValue → Type 0
NotesRead line old (Ok asked) notes new = NotesCommand line old asked notes new
NotesRead line old (Err fault) notes new = (notes ≡ []) × (new ≡ old)

-- the notes of a line's bytes, where the line leads from one journal to another
abbrev pub NotesLine : (line : ℕ) → JournalValue → (bytes : List ℕ) → List Note → JournalValue → Type 0
NotesLine line old bytes notes new = NotesRead line old (command_of bytes) notes new

-- ---- lines where memory is refused

abbrev pub CommandCalls : BookValue → Command → BookValue → Type 0
CommandCalls old (command.Event happens) new = CallsTo old (call.Event happens) new
CommandCalls old (command.Begin at) new = CallsTo old (call.Begin at) new
CommandCalls old (command.Plan at) new = CallsTo old (call.Begin at) new
CommandCalls old command.Sheet new = new ≡ old

abbrev pub ReadCalls : BookValue → Result Command LineFault → BookValue → Type 0
ReadCalls old (Ok asked) new = CommandCalls old asked new
ReadCalls old (Err fault) new = new ≡ old

-- the line was brought to the book, or not
abbrev pub IsBroughtInPart : BookValue → (bytes : List ℕ) → BookValue → Type 0
IsBroughtInPart old bytes new = (new ≡ old) ⊎ ReadCalls old (command_of bytes) new

-- ---- texts

-- A line that isn't blank: it is brought to the book as a run does, and the text is the lines of its notes.
pub record IsNoted (line : ℕ) (old : JournalValue) (bytes : List ℕ) (text : List ℕ) (new : JournalValue) : Type 0 where
  pub notes : List Note
  pub noted : NotesLine line old bytes notes new
  pub lines : AreLines (IsNoteLine None line) notes text

-- What is written of a line that isn't blank. Such a line counts where it has a note.
abbrev pub WritesNotes : (line : ℕ) → JournalValue → (bytes text : List ℕ) → (counts : Bool) → JournalValue → Type 0
WritesNotes line old bytes text counts new =
    (IsNoted line old bytes text new × (counts ≡ nat_lt 0 (length text)))
    ⊎ (IsBroughtInPart old.book bytes new.book × (text ≡ memory_line None line) × (counts ≡ true))
