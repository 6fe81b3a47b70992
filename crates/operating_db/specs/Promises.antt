-- When the promises of the wagons and those of the orders agree.
use Rattle.std.specs.Prelude.{◌≡◌, ℕ, Bool, false, nat_eq, List, [], Option, Some, None, All}
use Rattle.std.specs.List.{IsDistinct, list_any}
use Rattle.std.specs.Cmp.Lexicographic.{pointwise}
use Rattle.wagons_and_orders.specs.declared.wagon_row.WagonRow.{WagonRow}
use Rattle.wagons_and_orders.specs.OrderRow.{OrderRowValue, IsOrderRow}
use Rattle.fleet_rows.specs.Rows.{names_of, wagon_in, order_in}
use Rattle.operating_db.specs.Office.{Office}

-- whether a promise is one to this order
abbrev pub is_promise_to : Option (List ℕ) → List ℕ → Bool
is_promise_to None id = false
is_promise_to (Some order) id = pointwise nat_eq id order

-- whether a number is among these
abbrev pub is_among : List ℕ → List (List ℕ) → Bool
is_among number numbers = list_any (pointwise nat_eq number) numbers

abbrev pub promise_of : Option WagonRow → Option (List ℕ)
promise_of None = None
promise_of (Some row) = row.promise

abbrev pub promised_of : Option OrderRowValue → List (List ℕ)
promised_of None = []
promised_of (Some row) = row.promised

-- A wagon is promised to an order exactly where it is among the order's promised wagons. So no wagon is promised to
-- two orders.
abbrev pub SidesAgree : Office → Type 0
SidesAgree office =
    (number id : List ℕ) → is_promise_to (promise_of (wagon_in office.wagons number)) id ≡ is_among number (promised_of (order_in office.orders id))

-- What an order keeps of its promises: no wagon is promised to it twice; the wagons promised to it and those that filled
-- it are together at most as many as it wants; and none is promised to it once it is withdrawn.
pub record KeepsPromises (row : OrderRowValue) : Type 0 where
  pub once : IsDistinct (pointwise nat_eq) row.promised
  pub valid : IsOrderRow row

-- The promises of an office agree: the side of the wagons and that of the orders say the same; no two orders have one
-- name; and every order keeps what it must.
pub record PromisesAgree (office : Office) : Type 0 where
  pub agree : SidesAgree office
  pub names : IsDistinct (pointwise nat_eq) (names_of office.orders)
  pub orders : All KeepsPromises office.orders
