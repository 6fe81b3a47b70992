-- The map of a history's last version.
use Rattle.std.specs.Prelude.{◌≡◌, ◌⊎◌, ℕ, Bool, false, if◌then◌else◌, List, Option, Some, None}
use Rattle.commit_book.specs.History.{replay}
use Rattle.commit_book.specs.Setting.{Setting}
use Rattle.fleet_rows.specs.Rows.{order_in}
use Rattle.line_network.specs.Network.{NetworkValue}
use Rattle.line_network.specs.Networks.{network_at}
use Rattle.move_messages.specs.declared.event.Event.{Event}
use Rattle.office_map.specs.Map.{IsMapText}
use Rattle.office_map.specs.Shown.{is_drawn}
use Rattle.office_map.specs.declared.choice.Choice.{Choice}
use Rattle.operating_db.specs.Office.{Office}
use Rattle.place_names.specs.declared.named_place.NamedPlace.{NamedPlace}
use Rattle.wagons_and_orders.specs.OrderRow.{OrderRowValue}
use Rattle.office_files.specs.declared.stop.Stop.{Stop}
use Rattle.office_files.specs.declared.stop.Stop.TheVariants as stop

-- whether a map without a choice shows an order
abbrev pub is_on_map : Option OrderRowValue → Bool
is_on_map None = false
is_on_map (Some row) = is_drawn row

-- why there is no map of an office: an order is asked for that a map of all doesn't show
abbrev pub order_fault : Office → (asked : Option (List ℕ)) → Option Stop
order_fault office None = None
order_fault office (Some id) = if is_on_map (order_in office.orders id) then None else Some (stop.OrderNotOnMap id)

-- The map of the office after all entries, over the network in force, with these names of places and what was chosen; an order
-- that is asked for is on it.
pub record IsMapOfLast (setting : Setting) (history : List Event) (named : List NamedPlace) (choice : Choice) (text : List ℕ) : Type 0 where
  pub network : NetworkValue
  pub in_force : network_at setting.networks (replay setting history).network ≡ Some network
  pub known : order_fault (replay setting history) choice.order ≡ None
  pub drawn : IsMapText (replay setting history) network named choice text

-- why there is none: an order that isn't on it is asked for, or memory was refused
abbrev pub IsNoMapOfLast : Setting → List Event → Choice → (why : Stop) → Type 0
IsNoMapOfLast setting history choice why = (order_fault (replay setting history) choice.order ≡ Some why) ⊎ (why ≡ stop.OutOfMemory)
