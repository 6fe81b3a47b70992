-- What the orders need that aren't withdrawn.
use Rattle.std.specs.Prelude.{ℕ, Bool, not, ◌&&◌, ◌||◌, nat_lt, List, Option, Some, None, filter, length, map}
use Rattle.wagons_and_orders.specs.Lack.{is_open, lack_of}
use Rattle.wagons_and_orders.specs.OrderRow.{OrderRowValue}
use Rattle.movements.specs.declared.need.OrderNeed.{OrderNeed}

-- whether an order isn't withdrawn
abbrev pub stands : OrderRowValue → Bool
stands row = not row.withdrawn

-- whether an order is open, and its latest moment is past
abbrev pub is_past : (at : ℕ) → OrderRowValue → Bool
is_past at row = is_open row && nat_lt row.text.latest at

-- by how many minutes each order was filled late, as far as that is known; 0 in time
abbrev pub LateFills : Type 0
LateFills = (order : List ℕ) → Option ℕ

abbrev pub minutes_of : Option ℕ → ℕ
minutes_of None = 0
minutes_of (Some minutes) = minutes

-- what an order needs at a moment
abbrev pub need_of : (at : ℕ) → LateFills → OrderRowValue → OrderNeed
need_of at late_fills row = record {
  order = row.text.id;
  place = row.text.place;
  latest = row.text.latest;
  penalty = row.text.penalty;
  wanted = row.text.wagons;
  filled = length row.filled;
  promised = length row.promised;
  missing = lack_of row;
  is_past = is_past at row;
  late = minutes_of (late_fills row.text.id);
}

-- the orders that aren't withdrawn, as placed
abbrev pub order_needs : (at : ℕ) → LateFills → List OrderRowValue → List OrderNeed
order_needs at late_fills rows = map (need_of at late_fills) (filter stands rows)

-- whether a person must see to an order: wagons are missing, or it is open past its latest moment
abbrev pub needs_person : OrderNeed → Bool
needs_person need = nat_lt 0 need.missing || need.is_past
