-- What a review writes of a line, and what the line does to the office.
use Rattle.std.specs.Prelude.{◌≡◌, ◌⊎◌, ℕ, Bool, true, nat_lt, List, [], ◌++◌, length, codes, Result, Ok, Err}
use Rattle.line_fields.specs.Commands.{command_of}
use Rattle.line_fields.specs.declared.fault.LineFault.{LineFault}
use Rattle.line_fields.specs.declared.command.Command.{Command}
use Rattle.line_fields.specs.declared.command.Command.TheVariants as command
use Rattle.wagons_and_orders.specs.declared.wagon_row.WagonRow.{WagonRow}
use Rattle.commit_book.specs.Books.{BookValue}
use Rattle.commit_book.specs.History.{replay}
use Rattle.place_names.specs.declared.named_place.NamedPlace.{NamedPlace}
use Rattle.line_engine.specs.Replies.{Responds}
use Rattle.journal_notes.specs.Heard.{heard_by_event, nothing_heard}
use Rattle.journal_notes.specs.declared.heard.Heard.{Heard}
use Rattle.office.specs.CommandReplies.{RepliesToLine, LineRunsOutOfMemory}
use Rattle.office.specs.NoteText.{note}
use Rattle.office.specs.CommandNotes.{AreLineNotes, KnownBefore}
use Rattle.office.specs.Fullness.{entries_note, lines_note}

-- What a review has come to: the book; the names of places, which stay; the number of the last line that wasn't blank, 0 before
-- the first; and the last two messages.
pub record ReviewValue : Type 0 where
  pub book : BookValue
  pub named : List NamedPlace
  pub line : ℕ
  pub heard : Heard

-- of a book, with these names of places, before the first line
abbrev pub first_review : BookValue → List NamedPlace → ReviewValue
first_review book named = record { book = book; named = named; line = 0; heard = nothing_heard }

-- ---- lines

-- the last two messages behind a line
abbrev pub heard_by : (line : ℕ) → Heard → Result Command LineFault → Heard
heard_by line heard (Ok (command.Event happens)) = heard_by_event line heard happens
heard_by line heard (Ok (command.Begin at)) = heard
heard_by line heard (Ok (command.Plan at)) = heard
heard_by line heard (Ok command.Sheet) = heard
heard_by line heard (Err fault) = heard

-- the wagons of the office that a book has reached
abbrev pub wagons_of : BookValue → List WagonRow
wagons_of book = (replay book.setting book.state.history).wagons

-- what a review knows before its next line
abbrev pub known_before : ReviewValue → KnownBefore
known_before review =
    record { networks = review.book.setting.networks; named = review.named; wagons = wagons_of review.book; heard = review.heard }

-- A line that isn't blank: it is brought to the book as a run does, and the text is its notes.
pub record IsReviewed (line : ℕ) (old : ReviewValue) (bytes : List ℕ) (text : List ℕ) (new : ReviewValue) : Type 0 where
  pub reply : List ℕ
  pub refused : Bool
  pub brought : RepliesToLine old.book bytes reply refused new.book
  pub named : new.named ≡ old.named
  pub number : new.line ≡ line
  pub heard : new.heard ≡ heard_by line old.heard (command_of bytes)
  pub said : List ℕ
  pub said_notes : AreLineNotes line (known_before old) bytes said
  pub whole : text ≡ said
      ++ entries_note line (length old.book.state.history) (length new.book.state.history) old.book.setting.entries
      ++ lines_note line old.line

-- The same where memory was refused: in the book, whose line may then be refused, or for the notes, which are missing then. The
-- messages may be as before.
pub record IsReviewedInPart (line : ℕ) (old : ReviewValue) (bytes : List ℕ) (new : ReviewValue) : Type 0 where
  pub reply : List ℕ
  pub refused : Bool
  pub brought : Responds RepliesToLine LineRunsOutOfMemory old.book bytes reply refused new.book
  pub named : new.named ≡ old.named
  pub number : new.line ≡ line
  pub heard : (new.heard ≡ old.heard) ⊎ (new.heard ≡ heard_by line old.heard (command_of bytes))

-- the note of a line that is reviewed in part
abbrev pub memory_note : (line : ℕ) → List ℕ
memory_note line = note line (codes "memory") []

-- What a review writes of a line that isn't blank. Such a line counts where there is a note.
abbrev pub Reviews : (line : ℕ) → ReviewValue → (bytes text : List ℕ) → (counts : Bool) → ReviewValue → Type 0
Reviews line old bytes text counts new =
    (IsReviewed line old bytes text new × (counts ≡ nat_lt 0 (length text)))
    ⊎ (IsReviewedInPart line old bytes new × (text ≡ memory_note line) × (counts ≡ true))
