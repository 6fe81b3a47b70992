-- The places of a map.
use Rattle.std.specs.Prelude.{◌≡◌, ℕ, List, ◌++◌, codes, filter}
use Rattle.place_names.specs.declared.named_place.NamedPlace.{NamedPlace}
use Rattle.reply_texts.specs.Lines.{AreLines}
use Rattle.wagons_and_orders.specs.declared.wagon_row.WagonRow.{WagonRow}
use Rattle.place_names.specs.Names.{name_of}
use Rattle.office_map.specs.Names.{coordinates_of, name_words}
use Rattle.office_map.specs.Orders.{IsOrderLine}
use Rattle.office_map.specs.Positions.{position_of}
use Rattle.office_map.specs.Shown.{stands_at, wants_at}
use Rattle.office_map.specs.Wagons.{class_lines}
use Rattle.office_map.specs.declared.shown.ShownOrder.{ShownOrder}

-- the name of a place, and the beginning of its label
abbrev pub name_line : List ℕ → List ℕ
name_line place = codes "  \"" ++ place ++ codes "\" [label=<<TABLE BORDER=\"0\" CELLBORDER=\"0\" CELLSPACING=\"0\" CELLPADDING=\"0\">\n"

-- the first line of its label, with its name if it has one
abbrev pub title_line : List NamedPlace → List ℕ → List ℕ
title_line named place = codes "    <TR><TD COLSPAN=\"4\"><B>" ++ place ++ codes "</B>" ++ name_words (name_of named place) ++ codes "</TD></TR>\n"

abbrev pub place_front : List NamedPlace → List ℕ → List ℕ
place_front named place = name_line place ++ title_line named place

-- the end of the label, and where the place lies, if that is said
abbrev pub place_back : List NamedPlace → List ℕ → List ℕ
place_back named place = codes "  </TABLE>>" ++ position_of (coordinates_of named place) ++ codes "];\n"

-- a place with the wagons that are there, and the orders that want wagons there
pub record IsPlaceNode (named : List NamedPlace) (wagons : List WagonRow) (orders : List ShownOrder) (place text : List ℕ) : Type 0 where
  pub lines : List ℕ
  pub are_lines : AreLines (IsOrderLine wagons) orders lines
  pub whole : text ≡ place_front named place ++ class_lines wagons ++ lines ++ place_back named place

-- a place with those of all wagons and orders
abbrev pub IsPlaceOf : List NamedPlace → List WagonRow → List ShownOrder → (place text : List ℕ) → Type 0
IsPlaceOf named wagons orders place text = IsPlaceNode named (filter (stands_at place) wagons) (filter (wants_at place) orders) place text
