-- What a review of the lines of an input does, up to the status of the program.
use Rattle.std.specs.Prelude.{◌≡◌, ◌⊎◌, ℕ, ◌==◌, if◌then◌else◌, List, length, Option, option_copied}
use Rattle.std.specs.Io.KnownBytes.{Appends, Keeps}
use Rattle.command_line.specs.declared.office_options.OfficeOptions.{OfficeOptions}
use Rattle.command_line.specs.declared.review_options.ReviewOptions.{ReviewOptions}
use Rattle.commit_book.specs.Books.{BookValue}
use Rattle.office.specs.JournalEnd.{end_note}
use Rattle.office.specs.Reviews.{ReviewValue, Reviews, first_review}
use Rattle.line_engine.specs.Lines.{max_line_bytes}
use Rattle.line_engine.specs.Runs.{RunEnds}
use Rattle.line_engine.specs.declared.run.RunCount.{RunCount}
use Rattle.line_network.specs.Network.{NetworkValue}
use Rattle.place_names.specs.declared.named_place.NamedPlace.{NamedPlace}
use Rattle.wagons_program.specs.FirstBook.{IsFirstBookFor}
use Rattle.office_files.specs.InFile.{BytesAt}
use Rattle.office_files.specs.PlacesFor.{ArePlacesAt}
use Rattle.office_files.specs.declared.stop.Stop.{Stop}
use Rattle.office_files.specs.declared.stop.Stop.TheVariants as stop
use Rattle.wagons_program.specs.Brought.{AreStopped, Lines, lines_over, printed_to, run_of}
use Rattle.wagons_program.specs.Status.{status_of_count}
use Rattle.wagons_program.specs.Streams.{PrintsNothing, Streams}

-- 1 where there is a note, of a line or at the end, else 0
abbrev pub status_of_notes : RunCount → ℕ
status_of_notes count = if length (end_note count) == 0 then status_of_count count else 1

-- The input came to its end. What was printed is the notes of each line, and behind them the note that the last line has no line
-- feed, where that is so of the input.
pub record NotesEnd (lines : Lines ReviewValue) (count : RunCount) : Type 0 where
  pub left : Option (List ℕ)
  pub between : Option (List ℕ)
  pub ends : RunEnds Reviews (run_of (printed_to lines between) left) count
  pub ending : Appends between lines.given.holds (end_note count)

-- The same, and this is the status.
pub record AreReviewed (lines : Lines ReviewValue) (status : ℕ) : Type 0 where
  pub count : RunCount
  pub notes : NotesEnd lines count
  pub status_is : status ≡ status_of_notes count

-- the first review for these options, with these names of places
abbrev pub IsFirstReviewFor : BytesAt → OfficeOptions → (named : List NamedPlace) → ReviewValue → Type 0
IsFirstReviewFor bytes_at options named review =
    (networks : List NetworkValue) × (book : BookValue) × IsFirstBookFor bytes_at options networks book × (review ≡ first_review book named)

-- the lines of an input were reviewed from the first review for these options, with the names of places, and this is the status
abbrev pub IsInputReviewed : BytesAt → ReviewOptions → Streams → (status : ℕ) → Type 0
IsInputReviewed bytes_at options given status =
    (named : List NamedPlace) × (first : ReviewValue) × (last : ReviewValue) × ArePlacesAt bytes_at (option_copied options.places) named
    × IsFirstReviewFor bytes_at options.office named first × AreReviewed (lines_over max_line_bytes given first last) status

-- The input came to its end, and the notes of each line were printed. Then the note at the end couldn't be made, and nothing more
-- was printed; or it couldn't be written.
pub record IsNoteMissing (lines : Lines ReviewValue) (why : Stop) : Type 0 where
  pub left : Option (List ℕ)
  pub between : Option (List ℕ)
  pub count : RunCount
  pub ends : RunEnds Reviews (run_of (printed_to lines between) left) count
  pub missing : ((why ≡ stop.OutOfMemory) × Keeps between lines.given.holds) ⊎ (why ≡ stop.WriteFailed)

-- Why a review stopped: its run did, as it says; or the note at the end is missing.
abbrev pub IsReviewStopped : Lines ReviewValue → (why : Stop) → Type 0
IsReviewStopped lines why = AreStopped Reviews lines why ⊎ IsNoteMissing lines why

-- Why the lines of an input weren't reviewed: there was no first review, and nothing was printed; or the review stopped.
abbrev pub IsInputNotReviewed : BytesAt → ReviewOptions → Streams → (why : Stop) → Type 0
IsInputNotReviewed bytes_at options given why =
    PrintsNothing given
    ⊎ ((named : List NamedPlace) × (first : ReviewValue) × (last : ReviewValue) × ArePlacesAt bytes_at (option_copied options.places) named
    × IsFirstReviewFor bytes_at options.office named first × IsReviewStopped (lines_over max_line_bytes given first last) why)
