-- A walk over the places of the waiting orders meets each of them.
use Rattle.std.proofs.Common.{◌≡◌, ◌∙◌, ℕ, ◌+◌, suc, Bool, true, false, cond, List, [], ◌∷◌, refl, ap, sym, arith}
use Rattle.std.specs.Prelude.{Option, Some, None, slice_get}
use Rattle.std.specs.List.{cons_option, filter_map}
use Rattle.std.specs.Option.{option_and_then}
use Rattle.wagons_and_orders.specs.Lack.{is_waiting, lack_of}
use Rattle.wagons_and_orders.specs.OrderRow.{OrderRowValue}
use Rattle.wagons_and_orders.specs.Wanted.{WantedOrder}
use Rattle.fleet_rows.specs.WaitingOrders.{waiting_from}
use Rattle.operating_db.specs.Problem.{wanted_in, waiting_orders}
use Rattle.operating_db.specs.inner.Walks.{wanted_at}

walk_step : (meets : ℕ → Option WantedOrder) (first : ℕ) (b : Bool) (places : List ℕ) (wanted : WantedOrder) (later : List WantedOrder) → (b ≡ true → meets first ≡ Some wanted) → filter_map meets places ≡ later
    → filter_map meets (cond b (first ∷ places) places) ≡ cons_option (cond b (Some wanted) None) later
walk_step meets first true places wanted later here rest = rw (here refl, rest) refl
walk_step meets first false places wanted later here rest = rest

met : (row : OrderRowValue) (o : Option OrderRowValue) → o ≡ Some row → is_waiting row ≡ true → option_and_then wanted_in o ≡ Some (record { order = row.text; lack = lack_of row })
met row o there waits = rw (there, waits) refl

walked_from : (first : ℕ) (rows all : List OrderRowValue) → ((k : ℕ) → slice_get all (first + k) ≡ slice_get rows k) → filter_map (wanted_at all) (waiting_from first rows) ≡ waiting_orders rows
walked_from first [] all h = refl
walked_from first (row ∷ rows) all h =
    let next : first + 0 ≡ first = omega arith in
    let here : slice_get all first ≡ Some row = ap (slice_get all) (sym next) ∙ h 0 in
    let later = walked_from (first + 1) rows all (λ k. let same : first + 1 + k ≡ first + suc k = omega arith in ap (slice_get all) same ∙ h (suc k)) in
    walk_step (wanted_at all) first (is_waiting row) (waiting_from (first + 1) rows) (record { order = row.text; lack = lack_of row }) (waiting_orders rows) (met row (slice_get all first) here) later

pub walked : (rows : List OrderRowValue) → filter_map (wanted_at rows) (waiting_from 0 rows) ≡ waiting_orders rows
walked rows = walked_from 0 rows rows (λ k. let same : 0 + k ≡ k = omega arith in ap (slice_get rows) same)
