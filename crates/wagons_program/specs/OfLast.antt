-- What is printed of the version to which the lines of an input led: its problem, its plan, its map, and its checkpoint.
use Rattle.std.specs.Prelude.{◌≡◌, ℕ, List, Option, Some, None, option_copied}
use Rattle.command_line.specs.declared.map_options.MapOptions.{MapOptions}
use Rattle.command_line.specs.declared.office_options.OfficeOptions.{OfficeOptions}
use Rattle.command_line.specs.declared.office_options.ProblemOptions.{ProblemOptions}
use Rattle.command_line.specs.declared.office_options.SaveOptions.{SaveOptions}
use Rattle.command_line.specs.declared.plan_options.PlanOptions.{PlanOptions}
use Rattle.command_line.specs.declared.state_options.StateOptions.{StateOptions}
use Rattle.commit_book.specs.Books.{BookValue}
use Rattle.last_texts.specs.MapOfLast.{IsMapOfLast}
use Rattle.last_texts.specs.PlanOfLast.{IsPlanTextOfLast}
use Rattle.last_texts.specs.SavedOfLast.{IsSaved, added_rows, last_state}
use Rattle.last_texts.specs.StateOfLast.{AreOrdersOfLast, IsFleetOfLast}
use Rattle.last_texts.specs.TableOfLast.{IsTableTextOfLast}
use Rattle.last_texts.specs.ZoneClock.{AreZoneBytes}
use Rattle.line_network.specs.Network.{NetworkValue}
use Rattle.office_files.specs.InFile.{BytesAt, IsRosterIn}
use Rattle.office_files.specs.PlacesFor.{ArePlacesAt}
use Rattle.place_names.specs.declared.named_place.NamedPlace.{NamedPlace}
use Rattle.wagons_and_orders.specs.declared.wagon_row.WagonRow.{WagonRow}
use Rattle.wagons_program.specs.Brought.{IsBroughtTo}
use Rattle.wagons_program.specs.FirstLines.{input_upto}
use Rattle.wagons_program.specs.Streams.{Prints, Streams, without_output}

-- The command lines of an input led from the first book for these options to a book, their replies went to nobody, and what was
-- printed is such a text of that book. The status is 0, whether a line was refused or not.
pub record PrintsOfLast (bytes_at : BytesAt) (options : OfficeOptions) (IsText : BookValue → (text : List ℕ) → Type 0) (given : Streams) (status : ℕ) : Type 0 where
  pub networks : List NetworkValue
  pub book : BookValue
  pub refused : ℕ
  pub brought : IsBroughtTo bytes_at options networks (without_output given) book refused
  pub text : List ℕ
  pub is_text : IsText book text
  pub printed : Prints given text
  pub status_is : status ≡ 0

-- the table line of the problem
abbrev pub IsTablePrinted : BytesAt → ProblemOptions → Streams → (status : ℕ) → Type 0
IsTablePrinted bytes_at options given status = PrintsOfLast bytes_at options.office (λ book text. IsTableTextOfLast book.setting book.state.history options.at text) given status

-- The text is shown with the names of places that a file says, and in the time zone of a file's bytes.
abbrev pub IsShownPrinted : BytesAt → OfficeOptions → (places zone : Option (List ℕ)) → (IsText : BookValue → List NamedPlace → (zone text : List ℕ) → Type 0) → Streams → (status : ℕ) → Type 0
IsShownPrinted bytes_at office places zone IsText given status = (named : List NamedPlace) × ArePlacesAt bytes_at places named
    × (bytes : List ℕ) × AreZoneBytes bytes_at zone bytes
    × PrintsOfLast bytes_at office (λ book text. IsText book named bytes text) given status

-- the plan for people
abbrev pub IsPlanPrinted : BytesAt → PlanOptions → Streams → (status : ℕ) → Type 0
IsPlanPrinted bytes_at options given status = IsShownPrinted bytes_at options.problem.office (option_copied options.places) (option_copied options.zone)
    (λ book places zone text. IsPlanTextOfLast book.setting book.state.history options places zone text) given status

-- the wagons
abbrev pub IsFleetPrinted : BytesAt → StateOptions → Streams → (status : ℕ) → Type 0
IsFleetPrinted bytes_at options given status = IsShownPrinted bytes_at options.office (option_copied options.places) (option_copied options.zone)
    (λ book places zone text. IsFleetOfLast book.setting book.state.history options places zone text) given status

-- the orders
abbrev pub AreOrdersPrinted : BytesAt → StateOptions → Streams → (status : ℕ) → Type 0
AreOrdersPrinted bytes_at options given status = IsShownPrinted bytes_at options.office (option_copied options.places) (option_copied options.zone)
    (λ book places zone text. AreOrdersOfLast book.setting book.state.history options places zone text) given status

-- the map of what is chosen, with the names of places
abbrev pub IsMapPrinted : BytesAt → MapOptions → Streams → (status : ℕ) → Type 0
IsMapPrinted bytes_at options given status = (places : List NamedPlace) × ArePlacesAt bytes_at (option_copied options.places) places
    × PrintsOfLast bytes_at options.office (λ book text. IsMapOfLast book.setting book.state.history places
    (record { busy = options.busy; order = options.order; class = options.class }) text) given status

-- the wagons that are added: those of the roster that a file says, where one is given
abbrev pub AreAddedFor : BytesAt → (path : Option (List ℕ)) → (added : Option (List WagonRow)) → Type 0
AreAddedFor bytes_at None added = added ≡ None
AreAddedFor bytes_at (Some path) added = (rows : List WagonRow) × IsRosterIn (bytes_at path) rows × (added ≡ Some rows)

-- the checkpoint, with the wagons that are added and without those that leave; of the first lines alone, where they are counted
abbrev pub IsSavedPrinted : BytesAt → SaveOptions → Streams → (status : ℕ) → Type 0
IsSavedPrinted bytes_at options given status = (added : Option (List WagonRow)) × AreAddedFor bytes_at (option_copied options.with) added
    × PrintsOfLast bytes_at options.office (λ book text. IsSaved (last_state book.setting book.state.history) (added_rows added) options.without.items text)
    (record given { input = input_upto options.upto given.input }) status
