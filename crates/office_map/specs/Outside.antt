-- The places on a map that the network doesn't have.
use Rattle.std.specs.Prelude.{ℕ, if◌then◌else◌, List, [], is_some}
use Rattle.std.specs.List.{fold}
use Rattle.line_network.specs.Network.{NetworkValue, place_index}
use Rattle.line_network.specs.Reading.{with_place}
use Rattle.wagons_and_orders.specs.StatusTable.{place_of}
use Rattle.wagons_and_orders.specs.declared.wagon_row.WagonRow.{WagonRow}
use Rattle.office_map.specs.declared.shown.ShownOrder.{ShownOrder}

-- the places with one more, where it is neither in the network nor among them
abbrev pub with_outside : NetworkValue → List (List ℕ) → List ℕ → List (List ℕ)
with_outside network places place = if is_some (place_index network.places place) then places else with_place places place

-- with the place of a wagon; with that of an order
abbrev pub with_wagon_place : NetworkValue → List (List ℕ) → WagonRow → List (List ℕ)
with_wagon_place network places row = with_outside network places (place_of row.status)

abbrev pub with_order_place : NetworkValue → List (List ℕ) → ShownOrder → List (List ℕ)
with_order_place network places order = with_outside network places order.text.place

-- the places of these wagons, and then of these orders, each once
abbrev pub outside_places : NetworkValue → List WagonRow → List ShownOrder → List (List ℕ)
outside_places network wagons orders = fold (with_order_place network) (fold (with_wagon_place network) [] wagons) orders
