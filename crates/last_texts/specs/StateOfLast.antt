-- The wagons and the orders of a history's last version, as tables.
use Rattle.std.specs.Prelude.{ℕ, Bool, true, false, List, Option, option_copied}
use Rattle.command_line.specs.declared.state_options.StateOptions.{StateOptions}
use Rattle.commit_book.specs.History.{replay}
use Rattle.commit_book.specs.Setting.{Setting}
use Rattle.fleet_tables.specs.OrderRows.{IsOrdersText}
use Rattle.fleet_tables.specs.WagonRows.{IsFleetText}
use Rattle.move_messages.specs.declared.event.Event.{Event}
use Rattle.operating_db.specs.Office.{Office}
use Rattle.place_names.specs.declared.named_place.NamedPlace.{NamedPlace}
use Rattle.text_tables.specs.declared.clock.Clock.{Clock}
use Rattle.text_tables.specs.declared.form.Form.{Form}
use Rattle.text_tables.specs.declared.form.Form.TheVariants.{Table, Csv, Json}
use Rattle.last_texts.specs.ZoneClock.{IsClockFor}

-- how rows are printed
abbrev pub form_of : (csv json : Bool) → Form
form_of csv true = Json
form_of true false = Csv
form_of false false = Table

-- the wagons of an office, by the clock for the time zone that is asked for, whose file has these bytes
pub record IsFleetIn (form : Form) (places : List NamedPlace) (zone : Option (List ℕ)) (bytes : List ℕ) (office : Office) (text : List ℕ) : Type 0 where
  pub clock : Clock
  pub for_zone : IsClockFor zone bytes clock
  pub printed : IsFleetText places clock form office.wagons text

-- its orders, likewise
pub record AreOrdersIn (form : Form) (places : List NamedPlace) (zone : Option (List ℕ)) (bytes : List ℕ) (office : Office) (text : List ℕ) : Type 0 where
  pub clock : Clock
  pub for_zone : IsClockFor zone bytes clock
  pub printed : IsOrdersText places clock form office.orders text

-- the wagons, by the options of `fleet`, the names of places and the bytes of the time zone's file
abbrev pub IsFleetOfLast : Setting → List Event → StateOptions → List NamedPlace → (zone text : List ℕ) → Type 0
IsFleetOfLast setting history options places zone text =
    IsFleetIn (form_of options.csv options.json) places (option_copied options.zone) zone (replay setting history) text

-- the orders, by the options of `orders`
abbrev pub AreOrdersOfLast : Setting → List Event → StateOptions → List NamedPlace → (zone text : List ℕ) → Type 0
AreOrdersOfLast setting history options places zone text =
    AreOrdersIn (form_of options.csv options.json) places (option_copied options.zone) zone (replay setting history) text
