-- What is printed of a trace: what the lines of an input did to a wagon or an order.
use Rattle.std.specs.Prelude.{◌≡◌, ℕ, false, List, None, Option, option_copied}
use Rattle.command_line.specs.declared.trace_options.Followed.{Followed}
use Rattle.command_line.specs.declared.trace_options.Followed.TheVariants as followed
use Rattle.command_line.specs.declared.trace_options.TraceOptions.{TraceOptions}
use Rattle.commit_book.specs.Books.{BookValue}
use Rattle.last_texts.specs.TraceShown.{IsTraceShown}
use Rattle.last_texts.specs.ZoneClock.{AreZoneBytes}
use Rattle.line_engine.specs.Lines.{max_line_bytes}
use Rattle.line_network.specs.Network.{NetworkValue}
use Rattle.office_files.specs.InFile.{BytesAt}
use Rattle.office_files.specs.PlacesFor.{ArePlacesAt}
use Rattle.place_names.specs.declared.named_place.NamedPlace.{NamedPlace}
use Rattle.traces.specs.Traces.{Follows, TraceValue, first_trace}
use Rattle.traces.specs.declared.asked.Asked.{Asked}
use Rattle.traces.specs.declared.asked.Asked.TheVariants.{Wagon, Order}
use Rattle.wagons_program.specs.Brought.{AreAnswered, lines_over}
use Rattle.wagons_program.specs.FirstBook.{IsFirstBookFor}
use Rattle.wagons_program.specs.Streams.{Prints, Streams, streams}

-- what is asked for
abbrev pub asked_of : Followed → Asked
asked_of (followed.Wagon number) = Wagon number
asked_of (followed.Order id) = Order id

-- the trace for these options, of their first book, before the first line
abbrev pub IsFirstTraceFor : BytesAt → TraceOptions → TraceValue → Type 0
IsFirstTraceFor bytes_at options trace =
    (networks : List NetworkValue) × (book : BookValue) × IsFirstBookFor bytes_at options.state.office networks book
    × (trace ≡ first_trace book (asked_of options.followed))

-- the trace to which all lines of an input led, one after the other
pub record IsTraceOf (bytes_at : BytesAt) (options : TraceOptions) (input : Option (List ℕ)) (trace : TraceValue) : Type 0 where
  pub first : TraceValue
  pub is_first : IsFirstTraceFor bytes_at options first
  pub refused : ℕ
  pub followed : AreAnswered Follows (lines_over max_line_bytes (streams input None None) first trace) refused
  pub whole : trace.partial ≡ false

-- What was printed is the text of this trace, with the names of places that a file says, and in the time zone of a file's bytes. The
-- status is 0, whether a line was refused or not.
pub record IsTracePrinted (bytes_at : BytesAt) (options : TraceOptions) (given : Streams) (status : ℕ) : Type 0 where
  pub named : List NamedPlace
  pub are_named : ArePlacesAt bytes_at (option_copied options.state.places) named
  pub zone : List ℕ
  pub is_zone : AreZoneBytes bytes_at (option_copied options.state.zone) zone
  pub trace : TraceValue
  pub of_input : IsTraceOf bytes_at options given.input trace
  pub text : List ℕ
  pub shown : IsTraceShown trace options.state named zone text
  pub printed : Prints given text
  pub status_is : status ≡ 0
