-- What a run does that writes notes to a file.
use Rattle.std.specs.Prelude.{◌≡◌, ◌⊎◌, ℕ, List, None, Option}
use Rattle.command_line.specs.declared.office_options.OfficeOptions.{OfficeOptions}
use Rattle.command_line.specs.declared.office_options.RunOptions.{RunOptions}
use Rattle.commit_book.specs.Books.{BookValue}
use Rattle.journal_notes.specs.NotedJournal.{first_journal}
use Rattle.line_engine.specs.Lines.{max_line_bytes}
use Rattle.line_engine.specs.declared.device.Sink.{Ghosts}
use Rattle.line_network.specs.Network.{NetworkValue}
use Rattle.office.specs.NotedRuns.{WritesBoth}
use Rattle.office.specs.declared.noted_runs.NotedBook.{NotedBook}
use Rattle.office_files.specs.InFile.{BytesAt}
use Rattle.office_files.specs.declared.stop.Stop.{Stop}
use Rattle.office_files.specs.declared.stop.Stop.TheVariants as stop
use Rattle.wagons_program.specs.Brought.{AreAnswered, IsInputBrought, IsNotBrought, lines_over}
use Rattle.wagons_program.specs.FirstBook.{IsFirstBookFor}
use Rattle.wagons_program.specs.Streams.{Streams}

-- the first book for these options, with no note yet
pub record IsFirstNotedFor {N : Type 0} (bytes_at : BytesAt) (options : OfficeOptions) (noted : NotedBook N) : Type 0 where
  pub networks : List NetworkValue
  pub book : BookValue
  pub is_first : IsFirstBookFor bytes_at options networks book
  pub kept : noted.kept ≡ first_journal book
  pub no_failure : noted.notes.first_failure ≡ None

-- The lines of an input were brought to that book, each was replied to as in a run, and the notes of each were written.
pub record AreNotesWritten {N : Type 0} (bytes_at : BytesAt) (writing : Ghosts N) (options : OfficeOptions) (given : Streams) (status : ℕ) : Type 0 where
  pub first : NotedBook N
  pub are_first : IsFirstNotedFor bytes_at options first
  pub last : NotedBook N
  pub answered : AreAnswered (WritesBoth writing) (lines_over max_line_bytes given first last) status
  pub no_failure : last.notes.first_failure ≡ None

-- notes couldn't be written, from those of a line on
abbrev pub IsNotesFailed : (why : Stop) → Type 0
IsNotesFailed why = (line : Option ℕ) × (why ≡ stop.NotesFailed line)

-- the same, where the lines of the input were brought and replied to
pub record HaveNotesFailed (bytes_at : BytesAt) (options : OfficeOptions) (given : Streams) (why : Stop) : Type 0 where
  pub failed : IsNotesFailed why
  pub status : ℕ
  pub brought : IsInputBrought bytes_at options given status

-- why a run with notes didn't come to its end, or its notes weren't written
abbrev pub AreNotesUndone : BytesAt → OfficeOptions → Streams → (why : Stop) → Type 0
AreNotesUndone bytes_at options given why = IsNotBrought bytes_at options given why ⊎ HaveNotesFailed bytes_at options given why

-- the same of a run, with notes or without
abbrev pub IsRunUndone : BytesAt → RunOptions → Streams → (why : Stop) → Type 0
IsRunUndone bytes_at options given why = AreNotesUndone bytes_at options.office given why
