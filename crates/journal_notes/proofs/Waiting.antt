-- The names of the orders that wait.
use Rattle.std.proofs.Common.{◌≡◌, ℕ, Bool, true, false, List, [], ◌∷◌, map, refl, ap}
use Rattle.std.specs.List.{filter, filter_map}
use Rattle.fleet_rows.specs.Rows.{names_of}
use Rattle.operating_db.specs.Problem.{waiting_orders, wanted_in}
use Rattle.wagons_and_orders.specs.Lack.{is_waiting}
use Rattle.wagons_and_orders.specs.OrderRow.{OrderRowValue}
use Rattle.wagons_and_orders.specs.Wanted.{WantedOrder}

abbrev name_of : WantedOrder → List ℕ
name_of wanted = wanted.order.id

step : (row : OrderRowValue) (rows : List OrderRowValue) (waits : Bool) → is_waiting row ≡ waits → map name_of (filter_map wanted_in rows) ≡ names_of (filter is_waiting rows)
    → map name_of (filter_map wanted_in (row ∷ rows)) ≡ names_of (filter is_waiting (row ∷ rows))
step row rows true is rest = rw is (ap (λ (names : List (List ℕ)). row.text.id ∷ names) rest)
step row rows false is rest = rw is rest

pub names_waiting : (rows : List OrderRowValue) → map name_of (waiting_orders rows) ≡ names_of (filter is_waiting rows)
names_waiting [] = refl
names_waiting (row ∷ rows) = step row rows (is_waiting row) refl (names_waiting rows)
