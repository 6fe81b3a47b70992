-- The promises of a map: arrows from where wagons are to where they are wanted.
use Rattle.std.specs.Prelude.{ℕ, Bool, ◌&&◌, nat_eq, if◌then◌else◌, List, [], ◌++◌, Option, Some, None, codes, count_by, decimal, length, slice_get, take}
use Rattle.std.specs.Cmp.Lexicographic.{pointwise}
use Rattle.std.specs.List.{filter_map, flat_map, list_any, range_with_len}
use Rattle.fleet_rows.specs.Rows.{order_in}
use Rattle.wagons_and_orders.specs.OrderRow.{OrderRowValue}
use Rattle.wagons_and_orders.specs.StatusTable.{place_of}
use Rattle.wagons_and_orders.specs.declared.wagon_row.WagonRow.{WagonRow}
use Rattle.office_map.specs.Words.{quoted}
use Rattle.office_map.specs.declared.promise_arrows.Arrow.{Arrow}

-- an arrow between two places; none where they are one
abbrev pub arrow_between : (from to : List ℕ) → Option Arrow
arrow_between from to = if pointwise nat_eq from to then None else Some (record { from = from; to = to })

-- an arrow to the place of an order
abbrev pub arrow_to : (from : List ℕ) → Option OrderRowValue → Option Arrow
arrow_to from None = None
arrow_to from (Some order) = arrow_between from order.text.place

-- the arrow of a wagon that is promised
abbrev pub arrow_for : List OrderRowValue → (from : List ℕ) → Option (List ℕ) → Option Arrow
arrow_for orders from None = None
arrow_for orders from (Some id) = arrow_to from (order_in orders id)

abbrev pub arrow_of : List OrderRowValue → WagonRow → Option Arrow
arrow_of orders row = arrow_for orders (place_of row.status) row.promise

-- whether two arrows are between the same places
abbrev pub is_same_arrow : Arrow → Arrow → Bool
is_same_arrow arrow other = pointwise nat_eq arrow.from other.from && pointwise nat_eq arrow.to other.to

-- so many wagons that are promised from one place to another
abbrev pub arrow_line : ℕ → Arrow → List ℕ
arrow_line count arrow = codes "  " ++ quoted arrow.from ++ codes " -> " ++ quoted arrow.to ++ codes " [label=\"" ++ decimal count ++ codes "\"];\n"

-- The line of the arrows that are the same as this one. It stands where the first of them does; `earlier` are the arrows
-- before this one.
abbrev pub arrow_in : (earlier arrows : List Arrow) → Option Arrow → List ℕ
arrow_in earlier arrows None = []
arrow_in earlier arrows (Some arrow) = if list_any (is_same_arrow arrow) earlier then [] else arrow_line (count_by (is_same_arrow arrow) arrows) arrow

abbrev pub arrow_at : List Arrow → ℕ → List ℕ
arrow_at arrows i = arrow_in (take i arrows) arrows (slice_get arrows i)

-- these arrows, the same ones in one line
abbrev pub arrow_lines : List Arrow → List ℕ
arrow_lines arrows = flat_map (arrow_at arrows) (range_with_len 0 (length arrows))

-- the promises of these wagons
abbrev pub promise_lines : List OrderRowValue → List WagonRow → List ℕ
promise_lines orders rows = arrow_lines (filter_map (arrow_of orders) rows)
