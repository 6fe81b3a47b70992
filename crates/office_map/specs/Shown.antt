-- What of an office is on a map: its wagons, its orders and its places.
use Rattle.std.specs.Prelude.{ℕ, Bool, true, false, not, ◌&&◌, ◌||◌, ◌==◌, nat_eq, if◌then◌else◌, List, Option, Some, None, filter, length, map}
use Rattle.std.specs.Cmp.Lexicographic.{pointwise}
use Rattle.std.specs.List.{filter_map, list_any}
use Rattle.wagons_and_orders.specs.Lack.{is_waiting, lack_of}
use Rattle.wagons_and_orders.specs.OrderRow.{OrderRowValue}
use Rattle.wagons_and_orders.specs.StatusTable.{place_of}
use Rattle.wagons_and_orders.specs.declared.wagon_row.WagonRow.{WagonRow}
use Rattle.office_map.specs.declared.choice.Choice.{Choice}
use Rattle.office_map.specs.declared.shown.ShownOrder.{ShownOrder}

-- ---- what is asked for

-- whether a class is asked for: each is where none is named
abbrev pub asks_class : Option (List ℕ) → List ℕ → Bool
asks_class None class = true
asks_class (Some asked) class = pointwise nat_eq asked class

-- whether an order is asked for by its name
abbrev pub asks_order : Option (List ℕ) → List ℕ → Bool
asks_order None id = true
asks_order (Some asked) id = pointwise nat_eq asked id

-- whether a wagon is asked for by the order that it is promised to
abbrev pub asks_promise : Option (List ℕ) → Option (List ℕ) → Bool
asks_promise None promise = true
asks_promise (Some asked) None = false
asks_promise (Some asked) (Some id) = pointwise nat_eq asked id

-- ---- wagons

abbrev pub shows_wagon : Choice → WagonRow → Bool
shows_wagon choice row = asks_class choice.class row.class && asks_promise choice.order row.promise

abbrev pub shown_wagons : Choice → List WagonRow → List WagonRow
shown_wagons choice rows = filter (shows_wagon choice) rows

-- ---- orders

-- whether an order lacks wagons, or has some promised
abbrev pub is_drawn : OrderRowValue → Bool
is_drawn row = is_waiting row || not (length row.promised == 0)

-- such an order is shown where its name is asked for, and a class that it accepts
abbrev pub shows_order : Choice → OrderRowValue → Bool
shows_order choice row = is_drawn row && (asks_order choice.order row.text.id && list_any (asks_class choice.class) row.text.classes)

-- an order that is shown, with how many wagons it lacks
abbrev pub shown_in : Choice → OrderRowValue → Option ShownOrder
shown_in choice row = if shows_order choice row then Some (record { text = row.text; lack = lack_of row }) else None

abbrev pub shown_orders : Choice → List OrderRowValue → List ShownOrder
shown_orders choice rows = filter_map (shown_in choice) rows

-- ---- places

-- whether a wagon is at a place, or was when last heard of
abbrev pub stands_at : List ℕ → WagonRow → Bool
stands_at place row = pointwise nat_eq (place_of row.status) place

-- whether an order wants its wagons at a place
abbrev pub wants_at : List ℕ → ShownOrder → Bool
wants_at place order = pointwise nat_eq order.text.place place

-- whether there is anything at a place
abbrev pub is_busy : List WagonRow → List ShownOrder → List ℕ → Bool
is_busy wagons orders place = list_any (stands_at place) wagons || list_any (wants_at place) orders

-- every place is shown, or every busy one
abbrev pub shows_place : Choice → List WagonRow → List ShownOrder → List ℕ → Bool
shows_place choice wagons orders place = not choice.busy || is_busy wagons orders place

-- of each of these places, whether it is shown
abbrev pub are_shown : Choice → List WagonRow → List ShownOrder → List (List ℕ) → List Bool
are_shown choice wagons orders places = map (shows_place choice wagons orders) places

-- those of these places that are shown
abbrev pub shown_places : Choice → List WagonRow → List ShownOrder → List (List ℕ) → List (List ℕ)
shown_places choice wagons orders places = filter (shows_place choice wagons orders) places
