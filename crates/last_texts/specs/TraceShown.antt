-- The trace of a wagon or an order, as text.
use Rattle.std.specs.Prelude.{ℕ, List, Option, option_copied}
use Rattle.command_line.specs.declared.state_options.StateOptions.{StateOptions}
use Rattle.place_names.specs.declared.named_place.NamedPlace.{NamedPlace}
use Rattle.text_tables.specs.declared.clock.Clock.{Clock}
use Rattle.text_tables.specs.declared.form.Form.{Form}
use Rattle.traces.specs.TraceText.{IsTraceText}
use Rattle.traces.specs.Traces.{TraceValue}
use Rattle.last_texts.specs.StateOfLast.{form_of}
use Rattle.last_texts.specs.ZoneClock.{IsClockFor}

-- a trace by the clock for the time zone that is asked for, whose file has these bytes
pub record IsTraceIn (form : Form) (places : List NamedPlace) (zone : Option (List ℕ)) (bytes : List ℕ) (trace : TraceValue) (text : List ℕ) : Type 0 where
  pub clock : Clock
  pub for_zone : IsClockFor zone bytes clock
  pub printed : IsTraceText places clock form trace text

-- by the options of `trace`, the names of places and the bytes of the time zone's file
abbrev pub IsTraceShown : TraceValue → StateOptions → List NamedPlace → (zone text : List ℕ) → Type 0
IsTraceShown trace options places zone text =
    IsTraceIn (form_of options.csv options.json) places (option_copied options.zone) zone trace text
