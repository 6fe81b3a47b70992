-- What is noted of an order that a line places. The wagons are those of the office before the line.
use Rattle.std.specs.Prelude.{ℕ, Bool, ◌&&◌, not, nat_lt, nat_le, is_some, List, ◌++◌}
use Rattle.std.specs.List.{list_any}
use Rattle.move_messages.specs.Order.{Order}
use Rattle.wagons_and_orders.specs.declared.wagon_row.WagonRow.{WagonRow}
use Rattle.wagons_and_orders.specs.Listed.{is_listed}
use Rattle.line_network.specs.Network.{NetworkValue, place_index}
use Rattle.journal_notes.specs.NoteLists.{noted}
use Rattle.journal_notes.specs.declared.note.Note.{Note}
use Rattle.journal_notes.specs.declared.note.Note.TheVariants.{UnknownPlace, NoClass, NoCarrier, Past}

-- ---- the conditions

-- whether a network has the place
abbrev pub has_place : List NetworkValue → (place : List ℕ) → Bool
has_place networks place = list_any (λ network. is_some (place_index network.places place)) networks

-- whether the order lists the wagon's class
abbrev pub is_of_listed_class : Order → WagonRow → Bool
is_of_listed_class order wagon = is_listed order.classes wagon.class

-- whether the wagon is of a listed class and carries the load
abbrev pub carries_load : Order → WagonRow → Bool
carries_load order wagon = is_listed order.classes wagon.class && nat_le order.load wagon.load_limit

-- whether the order's latest moment lies before that of the wagon's last message
abbrev pub is_before_last : Order → WagonRow → Bool
is_before_last order wagon = nat_lt order.latest wagon.last

-- no network has the place
abbrev pub lacks_place : List NetworkValue → Order → Bool
lacks_place networks order = not (has_place networks order.place)

-- no wagon is of a listed class
abbrev pub lacks_class : List WagonRow → Order → Bool
lacks_class wagons order = not (list_any (is_of_listed_class order) wagons)

-- a wagon is of a listed class, and none of these carries the load
abbrev pub lacks_load : List WagonRow → Order → Bool
lacks_load wagons order = list_any (is_of_listed_class order) wagons && not (list_any (carries_load order) wagons)

-- the latest moment lies before that of some wagon's last message
abbrev pub is_past : List WagonRow → Order → Bool
is_past wagons order = list_any (is_before_last order) wagons

-- ---- the notes

abbrev pub place_notes : List NetworkValue → Order → List Note
place_notes networks order = noted (lacks_place networks order) (UnknownPlace (record { order = order.id; place = order.place }))

abbrev pub class_notes : List WagonRow → Order → List Note
class_notes wagons order = noted (lacks_class wagons order) (NoClass (record { order = order.id }))

abbrev pub load_notes : List WagonRow → Order → List Note
load_notes wagons order = noted (lacks_load wagons order) (NoCarrier (record { order = order.id; load = order.load }))

abbrev pub past_notes : List WagonRow → Order → List Note
past_notes wagons order = noted (is_past wagons order) (Past (record { order = order.id; latest = order.latest }))

-- the notes of an order, in their order
abbrev pub order_notes : List NetworkValue → List WagonRow → Order → List Note
order_notes networks wagons order = (place_notes networks order ++ class_notes wagons order) ++ load_notes wagons order ++ past_notes wagons order
