-- Commits: which pairs of a wagon and an order can be promised, and the office after that.
use Rattle.std.specs.Prelude.{◌≡◌, ◌≤◌, ℕ, Bool, true, false, nat_eq, List, [], ◌∷◌, Option, Some, None, is_some, count_by, All}
use Rattle.std.specs.Cmp.Lexicographic.{pointwise}
use Rattle.wagons_and_orders.specs.declared.wagon_row.WagonRow.{WagonRow}
use Rattle.wagons_and_orders.specs.Free.{free_of}
use Rattle.wagons_and_orders.specs.Lack.{lack_of}
use Rattle.wagons_and_orders.specs.OrderRow.{OrderRowValue}
use Rattle.fleet_rows.specs.Rows.{wagon_in, order_in, at_wagon, at_order, promised_to, with_promise}
use Rattle.operating_db.specs.Office.{Office}

abbrev pub Pair : Type 0
Pair = List ℕ × List ℕ

-- in how many pairs a wagon stands; an order
abbrev pub times_of_wagon : List ℕ → List Pair → ℕ
times_of_wagon number pairs = count_by (λ (pair : Pair). pointwise nat_eq number pair.0) pairs

abbrev pub times_of_order : List ℕ → List Pair → ℕ
times_of_order id pairs = count_by (λ (pair : Pair). pointwise nat_eq id pair.1) pairs

-- whether there is a row, and its wagon is free
abbrev pub is_free_row : Option WagonRow → Bool
is_free_row None = false
is_free_row (Some row) = is_some (free_of row)

-- how many wagons an order lacks that there may be
abbrev pub lack_in : Option OrderRowValue → ℕ
lack_in None = 0
lack_in (Some row) = lack_of row

-- A pair of a commit: its wagon stands in no other pair and is free now; its order lacks as many wagons now as it is
-- given.
pub record IsPromisable (office : Office) (pairs : List Pair) (pair : Pair) : Type 0 where
  pub once : times_of_wagon pair.0 pairs ≤ 1
  pub free : is_free_row (wagon_in office.wagons pair.0) ≡ true
  pub lacking : times_of_order pair.1 pairs ≤ lack_in (order_in office.orders pair.1)

abbrev pub CanPromise : Office → List Pair → Type 0
CanPromise office pairs = All (IsPromisable office pairs) pairs

-- a wagon that is given to an order
abbrev pub given_to : List ℕ → WagonRow → WagonRow
given_to id row = with_promise (Some id) row

-- each pair is promised, on the wagon's side and on the order's
abbrev pub promise_pair : Office → Pair → Office
promise_pair office pair = record office {
  wagons = at_wagon pair.0 (given_to pair.1) office.wagons;
  orders = at_order pair.1 (promised_to pair.0) office.orders;
}

abbrev pub promise_all : Office → List Pair → Office
promise_all office [] = office
promise_all office (pair ∷ pairs) = promise_all (promise_pair office pair) pairs
