-- What is printed of the reasons of a plan: of the version to which the lines of an input led, or of one of its lines.
use Rattle.std.specs.Prelude.{◌≡◌, ℕ, false, List, None, Option, Some, option_copied}
use Rattle.command_line.specs.declared.office_options.OfficeOptions.{OfficeOptions}
use Rattle.command_line.specs.declared.why_options.When.{When}
use Rattle.command_line.specs.declared.why_options.When.TheVariants.{At, Line}
use Rattle.command_line.specs.declared.why_options.WhyOptions.{WhyOptions}
use Rattle.commit_book.specs.BegunProblem.{BegunValue}
use Rattle.commit_book.specs.Books.{BookValue}
use Rattle.last_texts.specs.ReasonsOfLast.{AreReasonsOfLast, AreReasonsOfPlan}
use Rattle.line_engine.specs.Lines.{max_line_bytes}
use Rattle.line_network.specs.Network.{NetworkValue}
use Rattle.line_plans.specs.PlanLines.{BeginsPlans, LinesValue, first_lines}
use Rattle.line_plans.specs.Plans.{IsPlanFor}
use Rattle.office_files.specs.InFile.{BytesAt}
use Rattle.office_files.specs.PlacesFor.{AreNamesAt}
use Rattle.place_names.specs.declared.named_place.NamedPlace.{NamedPlace}
use Rattle.wagons_program.specs.Brought.{AreAnswered, lines_over}
use Rattle.wagons_program.specs.FirstBook.{IsFirstBookFor}
use Rattle.wagons_program.specs.FirstLines.{input_upto}
use Rattle.wagons_program.specs.OfLast.{PrintsOfLast}
use Rattle.wagons_program.specs.Streams.{Prints, Streams, streams}

-- the lines for these options, of their first book, before the first line
abbrev pub AreFirstLinesFor : BytesAt → OfficeOptions → LinesValue → Type 0
AreFirstLinesFor bytes_at options lines =
    (networks : List NetworkValue) × (book : BookValue) × IsFirstBookFor bytes_at options networks book × (lines ≡ first_lines book)

-- memory was there for all lines, the last that isn't blank has this number, and this is the problem that it is about, with its table
pub record IsFound (last : LinesValue) (n : ℕ) (plan : BegunValue) : Type 0 where
  pub whole : last.partial ≡ false
  pub number : last.line ≡ n
  pub about : IsPlanFor last.book last.problem (Some plan)

-- Line n of an input was the last of its first n lines that isn't blank, and memory was there for all of them; this is the problem
-- that it is about, with its table.
pub record IsPlanOfLine (bytes_at : BytesAt) (options : OfficeOptions) (input : Option (List ℕ)) (n : ℕ) (plan : BegunValue) : Type 0 where
  pub first : LinesValue
  pub are_first : AreFirstLinesFor bytes_at options first
  pub last : LinesValue
  pub refused : ℕ
  pub taken : AreAnswered BeginsPlans (lines_over max_line_bytes (streams (input_upto (Some n) input) None None) first last) refused
  pub found : IsFound last n plan

-- What was printed are the reasons of a plan of that problem. The status is 0, whether a line was refused or not.
pub record AreLineReasonsPrinted (bytes_at : BytesAt) (options : WhyOptions) (n : ℕ) (names : Option (List NamedPlace)) (given : Streams) (status : ℕ) : Type 0 where
  pub plan : BegunValue
  pub of_line : IsPlanOfLine bytes_at options.office given.input n plan
  pub text : List ℕ
  pub is_text : AreReasonsOfPlan plan options names text
  pub printed : Prints given text
  pub status_is : status ≡ 0

-- by which plan is asked about: that of the last version at a moment, or that of a line
abbrev pub AreReasonsFor : BytesAt → WhyOptions → When → (names : Option (List NamedPlace)) → Streams → (status : ℕ) → Type 0
AreReasonsFor bytes_at options (At at) names given status =
    PrintsOfLast bytes_at options.office (λ book text. AreReasonsOfLast book.setting book.state.history at options names text) given status
AreReasonsFor bytes_at options (Line n) names given status = AreLineReasonsPrinted bytes_at options n names given status

-- the reasons of the plan that is asked about, with the names of places where they are asked for
abbrev pub AreReasonsPrinted : BytesAt → WhyOptions → Streams → (status : ℕ) → Type 0
AreReasonsPrinted bytes_at options given status = (names : Option (List NamedPlace)) × AreNamesAt bytes_at (option_copied options.places) names
    × AreReasonsFor bytes_at options options.when names given status
