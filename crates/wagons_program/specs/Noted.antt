-- What a review with notes as lines of JSON does, up to the status of the program.
use Rattle.std.specs.Prelude.{◌≡◌, ◌⊎◌, ℕ, List, MatchBool}
use Rattle.command_line.specs.declared.office_options.OfficeOptions.{OfficeOptions}
use Rattle.command_line.specs.declared.review_options.ReviewOptions.{ReviewOptions}
use Rattle.commit_book.specs.Books.{BookValue}
use Rattle.journal_notes.specs.NotedJournal.{JournalValue, WritesNotes, first_journal}
use Rattle.line_engine.specs.Lines.{max_line_bytes}
use Rattle.line_network.specs.Network.{NetworkValue}
use Rattle.office_files.specs.InFile.{BytesAt}
use Rattle.office_files.specs.declared.stop.Stop.{Stop}
use Rattle.wagons_program.specs.Brought.{AreAnswered, AreStopped, lines_over}
use Rattle.wagons_program.specs.FirstBook.{IsFirstBookFor}
use Rattle.wagons_program.specs.Reviewed.{IsInputNotReviewed, IsInputReviewed}
use Rattle.wagons_program.specs.Streams.{PrintsNothing, Streams}

-- the notes of a journal that begins with the first book for these options
abbrev pub IsFirstJournalFor : BytesAt → OfficeOptions → JournalValue → Type 0
IsFirstJournalFor bytes_at options journal =
    (networks : List NetworkValue) × (book : BookValue) × IsFirstBookFor bytes_at options networks book × (journal ≡ first_journal book)

-- the lines of an input were brought to the first book for these options, their notes were printed, and this is the status
abbrev pub IsInputNoted : BytesAt → OfficeOptions → Streams → (status : ℕ) → Type 0
IsInputNoted bytes_at options given status =
    (first : JournalValue) × (last : JournalValue) × IsFirstJournalFor bytes_at options first
    × AreAnswered WritesNotes (lines_over max_line_bytes given first last) status

-- Why they weren't: there was no first book, and nothing was printed; or the run stopped.
abbrev pub IsInputNotNoted : BytesAt → OfficeOptions → Streams → (why : Stop) → Type 0
IsInputNotNoted bytes_at options given why =
    PrintsNothing given
    ⊎ ((first : JournalValue) × (last : JournalValue) × IsFirstJournalFor bytes_at options first
    × AreStopped WritesNotes (lines_over max_line_bytes given first last) why)

-- a review came to its end, with its notes in the form that is asked for
abbrev pub IsReviewDone : BytesAt → ReviewOptions → Streams → (status : ℕ) → Type 0
IsReviewDone bytes_at options given status = MatchBool options.json (IsInputNoted bytes_at options.office given status) (IsInputReviewed bytes_at options given status)

-- why it didn't
abbrev pub IsReviewUndone : BytesAt → ReviewOptions → Streams → (why : Stop) → Type 0
IsReviewUndone bytes_at options given why = MatchBool options.json (IsInputNotNoted bytes_at options.office given why) (IsInputNotReviewed bytes_at options given why)
