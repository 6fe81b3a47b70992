-- The map of an office: a graph in Graphviz's language DOT.
use Rattle.std.specs.Prelude.{◌≡◌, ℕ, Bool, ◌+◌, ◌==◌, List, ◌++◌, codes, count_by, decimal, length, nat_le, not}
use Rattle.line_network.specs.Network.{NetworkValue}
use Rattle.place_names.specs.declared.named_place.NamedPlace.{NamedPlace}
use Rattle.reply_texts.specs.Lines.{AreLines}
use Rattle.operating_db.specs.Office.{Office}
use Rattle.wagons_and_orders.specs.OrderRow.{OrderRowValue}
use Rattle.wagons_and_orders.specs.declared.wagon_row.WagonRow.{WagonRow}
use Rattle.office_map.specs.Frame.{first_text, head_text, layout_words, legend_text, lines_text, outside_text, promises_text, room_words}
use Rattle.office_map.specs.Lines.{has_shown_ends, line_parts}
use Rattle.office_map.specs.Outside.{outside_places}
use Rattle.office_map.specs.Places.{IsPlaceOf}
use Rattle.office_map.specs.Promises.{promise_lines}
use Rattle.office_map.specs.Shown.{are_shown, shown_orders, shown_places, shown_wagons}
use Rattle.office_map.specs.declared.choice.Choice.{Choice}
use Rattle.office_map.specs.declared.shown.ShownOrder.{ShownOrder}

-- how many places are drawn, and how many lines, each way counted
abbrev pub box_count : NetworkValue → (shown : List Bool) → (places outside : List (List ℕ)) → ℕ
box_count network shown places outside = length places + length outside + count_by (has_shown_ends shown) network.lines

-- whether these are so few that Graphviz leads lines and arrows round them within a second
abbrev pub has_few : NetworkValue → (shown : List Bool) → (places outside : List (List ℕ)) → Bool
has_few network shown places outside = nat_le (box_count network shown places outside) 120

-- the head up to the number of the network in force
abbrev pub room_of : (few : Bool) → List ℕ
room_of few = first_text ++ room_words few ++ head_text

-- whether there are places whose names or coordinates are known
abbrev pub has_named : List NamedPlace → Bool
has_named named = not (length named == 0)

-- the head with its legend
abbrev pub head_of : (few is_named : Bool) → (network : ℕ) → List ℕ
head_of few is_named network = room_of few ++ (decimal network ++ legend_text) ++ layout_words is_named

-- the lines, the promises, and the end
abbrev pub edges_of : List NamedPlace → NetworkValue → (shown : List Bool) → List OrderRowValue → List WagonRow → List ℕ
edges_of named network shown orders wagons = lines_text ++ line_parts named network shown ++ promises_text ++ promise_lines orders wagons ++ codes "}\n"

-- A map with these wagons and orders, at these places of the network and these outside it; `shown` says of each place of the
-- network whether it is shown, and `named` has the names and coordinates that are known.
pub record IsDrawn (office : Office) (network : NetworkValue) (named : List NamedPlace) (wagons : List WagonRow) (orders : List ShownOrder) (shown : List Bool)
    (places outside : List (List ℕ)) (text : List ℕ) : Type 0 where
  pub inside : List ℕ
  pub beside : List ℕ
  pub are_inside : AreLines (IsPlaceOf named wagons orders) places inside
  pub are_beside : AreLines (IsPlaceOf named wagons orders) outside beside
  pub whole :
      text
      ≡ head_of (has_few network shown places outside) (has_named named) office.network
      ++ inside ++ outside_text ++ beside ++ edges_of named network shown office.orders wagons

-- such a map with the places that are asked for
abbrev pub IsChosen : Office → NetworkValue → List NamedPlace → Choice → List WagonRow → List ShownOrder → List ℕ → Type 0
IsChosen office network named choice wagons orders text =
    IsDrawn office network named wagons orders (are_shown choice wagons orders network.places) (shown_places choice wagons orders network.places)
    (outside_places network wagons orders) text

-- the whole map, with what is asked for
abbrev pub IsMapText : Office → NetworkValue → List NamedPlace → Choice → List ℕ → Type 0
IsMapText office network named choice text = IsChosen office network named choice (shown_wagons choice office.wagons) (shown_orders choice office.orders) text
