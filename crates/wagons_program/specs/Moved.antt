-- What is printed of the promised movements to which the lines of an input led.
use Rattle.std.specs.Prelude.{◌≡◌, ℕ, false, List, None, Option, option_copied}
use Rattle.command_line.specs.declared.moves_options.MovesOptions.{MovesOptions}
use Rattle.command_line.specs.declared.office_options.OfficeOptions.{OfficeOptions}
use Rattle.last_texts.specs.Fills.{FindsFills, IsFirstFilled, fills_in}
use Rattle.last_texts.specs.MovesOfLast.{IsMovesTextOfLast}
use Rattle.last_texts.specs.ZoneClock.{AreZoneBytes}
use Rattle.last_texts.specs.declared.fills.FilledJournal.{FilledJournal}
use Rattle.line_engine.specs.Lines.{max_line_bytes}
use Rattle.office_files.specs.InFile.{BytesAt}
use Rattle.office_files.specs.PlacesFor.{ArePlacesAt}
use Rattle.place_names.specs.declared.named_place.NamedPlace.{NamedPlace}
use Rattle.wagons_program.specs.Brought.{AreAnswered, lines_over}
use Rattle.wagons_program.specs.Noted.{IsFirstJournalFor}
use Rattle.wagons_program.specs.Streams.{Prints, Streams, streams}

-- the journal for these options, before the first line
pub record IsFirstFilledFor (bytes_at : BytesAt) (options : OfficeOptions) (journal : FilledJournal) : Type 0 where
  pub begins : IsFirstJournalFor bytes_at options journal.journal
  pub is_first : IsFirstFilled journal

-- the journal to which all lines of an input led, one after the other, with the orders that they filled
pub record IsFilledBy (bytes_at : BytesAt) (options : OfficeOptions) (input : Option (List ℕ)) (journal : FilledJournal) : Type 0 where
  pub first : FilledJournal
  pub is_first : IsFirstFilledFor bytes_at options first
  pub refused : ℕ
  pub filled : AreAnswered FindsFills (lines_over max_line_bytes (streams input None None) first journal) refused
  pub whole : journal.is_partial ≡ false

-- What was printed is the text of the movements of this journal's book, with the names of places that a file says, and in the time
-- zone of a file's bytes. The status is 0, whether a line was refused or not.
pub record AreMovesPrinted (bytes_at : BytesAt) (options : MovesOptions) (given : Streams) (status : ℕ) : Type 0 where
  pub named : List NamedPlace
  pub are_named : ArePlacesAt bytes_at (option_copied options.places) named
  pub zone : List ℕ
  pub is_zone : AreZoneBytes bytes_at (option_copied options.zone) zone
  pub journal : FilledJournal
  pub of_input : IsFilledBy bytes_at options.problem.office given.input journal
  pub text : List ℕ
  pub shown : IsMovesTextOfLast journal.journal.book.setting journal.journal.book.state.history (fills_in journal) options named zone text
  pub printed : Prints given text
  pub status_is : status ≡ 0
