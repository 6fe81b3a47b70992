-- The orders of a place on a map.
use Rattle.std.specs.Prelude.{◌≡◌, ℕ, Bool, false, ◌==◌, nat_eq, if◌then◌else◌, List, [], ◌∷◌, ◌++◌, Option, Some, None, codes, count_by, decimal}
use Rattle.std.specs.Cmp.Lexicographic.{pointwise}
use Rattle.std.specs.List.{flat_map}
use Rattle.rail_codes.specs.Moment.{IsMomentText}
use Rattle.wagons_and_orders.specs.declared.wagon_row.WagonRow.{WagonRow}
use Rattle.office_map.specs.Words.{promised_colour, waiting_colour}
use Rattle.office_map.specs.declared.shown.ShownOrder.{ShownOrder}

-- whether this is the order that a wagon is promised to
abbrev pub is_for : List ℕ → Option (List ℕ) → Bool
is_for id None = false
is_for id (Some promise) = pointwise nat_eq id promise

abbrev pub is_promised_to : List ℕ → WagonRow → Bool
is_promised_to id row = is_for id row.promise

-- one of several classes
abbrev pub or_class : List ℕ → List ℕ
or_class class = codes " or " ++ class

-- the classes that an order accepts
abbrev pub class_words : List (List ℕ) → List ℕ
class_words [] = []
class_words (class ∷ classes) = class ++ flat_map or_class classes

-- an order that lacks a wagon is in another colour than one whose wagons are all promised
abbrev pub order_colour : (lack : ℕ) → List ℕ
order_colour lack = if lack == 0 then promised_colour else waiting_colour

abbrev pub order_cell : (lack : ℕ) → List ℕ
order_cell lack = codes "    <TR><TD COLSPAN=\"4\"" ++ order_colour lack ++ codes ">"

-- the name of an order, and how many wagons it lacks
abbrev pub lack_words : ShownOrder → List ℕ
lack_words order = order.text.id ++ codes " lacks " ++ decimal order.lack ++ codes " "

-- what stands before the latest moment
abbrev pub order_front : ShownOrder → List ℕ
order_front order = order_cell order.lack ++ lack_words order ++ class_words order.text.classes ++ codes "<BR/>"

-- so many of its promised wagons are at its place
abbrev pub here_words : ℕ → List ℕ
here_words count = if count == 0 then [] else codes "<BR/>" ++ decimal count ++ codes " here already"

abbrev pub order_back : (here : ℕ) → List ℕ
order_back here = here_words here ++ codes "</TD></TR>\n"

-- an order with the wagons at its place and the text of its latest moment
abbrev pub order_text : List WagonRow → ShownOrder → (latest : List ℕ) → List ℕ
order_text wagons order latest = order_front order ++ latest ++ order_back (count_by (is_promised_to order.text.id) wagons)

-- the line of an order, where `latest` is the text of its latest moment
pub record IsOrderLine (wagons : List WagonRow) (order : ShownOrder) (line : List ℕ) : Type 0 where
  pub latest : List ℕ
  pub moment : IsMomentText order.text.latest latest
  pub text : line ≡ order_text wagons order latest
