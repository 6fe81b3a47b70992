-- What a feed of several files prints.
use Rattle.std.specs.Prelude.{◌≡◌, ◌⊎◌, ℕ, Bool, false, List, Option, Some, None, string_bytes}
use Rattle.std.specs.Io.KnownBytes.{Appends}
use Rattle.std.specs.List.{AllZip}
use Rattle.command_line.specs.declared.office_options.FeedOptions.{FeedOptions}
use Rattle.commit_book.specs.Books.{BookValue}
use Rattle.commit_book.specs.Setting.{Setting}
use Rattle.line_network.specs.Network.{NetworkValue}
use Rattle.office_files.specs.InFile.{BytesAt, HasBytes}
use Rattle.office_files.specs.declared.stop.Stop.{Stop}
use Rattle.office_files.specs.declared.stop.Stop.TheVariants.{NotesFailed}
use Rattle.sessions.specs.FeedReports.{IsFeedReport}
use Rattle.sessions.specs.ReportText.{IsReportText}
use Rattle.sessions.specs.declared.feed_report.FeedNotes.{FeedNotes}
use Rattle.sessions.specs.declared.feed_report.FeedReport.{FeedReport}
use Rattle.wagons_program.specs.FirstBook.{IsFirstBookFor}
use Rattle.wagons_program.specs.Status.{status_of_files}
use Rattle.wagons_program.specs.Streams.{IsUnprinted, Prints, Streams}

-- The command lines of these files were brought to a book without entries of this setting, what was printed is the report on them, and
-- this is the status. What is known of an open file are the bytes that it has left, and whether its reading failed.
pub record IsReported {F : Type 0} (setting : Setting) (remaining : F → Option (List ℕ)) (has_failed : F → Bool) (files : List F) (given : Streams) (status : ℕ) : Type 0 where
  pub report : FeedReport F
  pub fed : IsFeedReport setting remaining has_failed files report
  pub text : List ℕ
  pub is_text : IsReportText report.files.items report.book text
  pub printed : Prints given text
  pub status_is : status ≡ status_of_files report.files.items

-- The same of the files that the options name, in their order, and of the first book for these options.
pub record IsFedPrinted {F : Type 0} (bytes_at : BytesAt) (remaining : F → Option (List ℕ)) (has_failed : F → Bool) (options : FeedOptions) (given : Streams) (status : ℕ) : Type 0 where
  pub networks : List NetworkValue
  pub first : BookValue
  pub is_first : IsFirstBookFor bytes_at options.office networks first
  pub files : List F
  pub each : AllZip (λ path file. HasBytes (bytes_at path.now) (remaining file)) options.files.items files
  pub reported : IsReported first.setting remaining has_failed files given status

-- why a feed didn't come to its end; or its report was printed, and notes of it couldn't be written
abbrev pub IsFedUndone : Streams → (why : Stop) → Type 0
IsFedUndone given why = IsUnprinted given why ⊎ (why ≡ NotesFailed None)

-- The notes of a report were added to what a file holds, where that is known, and none is missing.
pub record AreNotesWritten {F : Type 0} (held holds : Option (List ℕ)) (report : FeedReport F) : Type 0 where
  pub notes : FeedNotes
  pub are_its : report.notes ≡ Some notes
  pub none_lost : notes.is_lost ≡ false
  pub written : Appends held holds (string_bytes notes.text)

-- The report was printed, and its notes were written to a file, where files tell so what they hold.
pub record IsReportedWithNotes {F N : Type 0} (setting : Setting) (remaining : F → Option (List ℕ)) (has_failed : F → Bool) (contents : N → Option (List ℕ)) (files : List F) (given : Streams) (status : ℕ) : Type 0 where
  pub reported : IsReported setting remaining has_failed files given status
  pub old : N
  pub new : N
  pub notes : AreNotesWritten (contents old) (contents new) reported.report
