-- The promised movements of a history's last version at a moment, over the network in force.
use Rattle.std.specs.Prelude.{◌≡◌, ℕ, List, length, Option, Some, option_copied, option_map}
use Rattle.std.specs.Borrow.{Bor}
use Rattle.command_line.specs.declared.moves_options.MovesOptions.{MovesOptions}
use Rattle.commit_book.specs.History.{replay}
use Rattle.commit_book.specs.Setting.{Setting}
use Rattle.last_texts.specs.Movers.{wagons_moved_by}
use Rattle.line_network.specs.Network.{NetworkValue}
use Rattle.line_network.specs.Networks.{network_at}
use Rattle.move_messages.specs.declared.event.Event.{Event}
use Rattle.movements.specs.declared.choice.Choice.{Choice}
use Rattle.movements.specs.declared.movement_list.MovementList.{MovementList}
use Rattle.movements.specs.FormText.{IsFormText}
use Rattle.movements.specs.ListOf.{IsListOf}
use Rattle.movements.specs.Needs.{LateFills}
use Rattle.operating_db.specs.Office.{Office}
use Rattle.place_names.specs.declared.named_place.NamedPlace.{NamedPlace}
use Rattle.text_tables.specs.declared.clock.Clock.{Clock}
use Rattle.text_tables.specs.declared.form.Form.{Form}
use Rattle.last_texts.specs.StateOfLast.{form_of}
use Rattle.last_texts.specs.ZoneClock.{IsClockFor}

-- which movements are asked for, where these wagons are listed alone
abbrev pub choice_of : MovesOptions → (among : Option (Bor (List (List ℕ)))) → Choice
choice_of options among = record { late = options.late; wagon = options.wagon; order = options.order; among = among; silent = options.silent }

-- the wagons that are listed alone: those that the company asked for moved last
abbrev pub AreMovedLast : List Event → Office → (company : Option (List ℕ)) → Option (Bor (List (List ℕ))) → Type 0
AreMovedLast history office company among =
    option_map (λ some. some.now) among ≡ option_map (λ company. wagons_moved_by history company office.wagons) company

-- the movements that are asked for, at the moment, where it is known which orders were filled late
pub record AreMovesOf (setting : Setting) (history : List Event) (late_fills : LateFills) (options : MovesOptions) (list : MovementList) : Type 0 where
  pub network : NetworkValue
  pub in_force : network_at setting.networks (replay setting history).network ≡ Some network
  pub among : Option (Bor (List (List ℕ)))
  pub moved : AreMovedLast history (replay setting history) options.company among
  pub listed : IsListOf (length history) (replay setting history) network options.problem.at late_fills (choice_of options among) list

-- a list of movements by the clock for the time zone that is asked for, whose file has these bytes
pub record AreMovesIn (form : Form) (places : List NamedPlace) (zone : Option (List ℕ)) (bytes : List ℕ) (list : MovementList) (text : List ℕ) : Type 0 where
  pub clock : Clock
  pub for_zone : IsClockFor zone bytes clock
  pub printed : IsFormText places clock form list text

-- the text of the movements, by the options of `moves`, the names of places and the bytes of the time zone's file
pub record IsMovesTextOfLast (setting : Setting) (history : List Event) (late_fills : LateFills) (options : MovesOptions) (places : List NamedPlace) (zone text : List ℕ) : Type 0 where
  pub list : MovementList
  pub of_last : AreMovesOf setting history late_fills options list
  pub printed : AreMovesIn (form_of options.csv options.json) places (option_copied options.zone) zone list text
