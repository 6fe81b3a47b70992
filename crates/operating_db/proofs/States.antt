-- What the state of an office keeps through each change.
use Rattle.std.proofs.Common.{◌≡◌, ◌∙◌, ℕ, ◌≤◌, arith, List, [], ◌∷◌, ◌++◌, map, refl, ap, sym, subst}
use Rattle.std.specs.Prelude.{◌↔◌, ◌+◌, nat_lt, Bool, true, false, cond, Option, Some, None, is_some, IsOk, IsSome, IfSome, Result, Ok, Err, OnOk, OnErr, option_map}
use Rattle.move_messages.specs.Order.{Order}
use Rattle.move_messages.specs.declared.message.Message as message
use Rattle.wagons_and_orders.specs.declared.change.Change.{Change}
use Rattle.wagons_and_orders.specs.declared.wagon_row.WagonRow.{WagonRow}
use Rattle.fleet_rows.specs.Roster.{IsRoster}
use Rattle.wagons_and_orders.specs.Lack.{is_open}
use Rattle.wagons_and_orders.specs.PossibleRows.{IsPossibleRow}
use Rattle.wagons_and_orders.proofs.Possible.{stay_possible}
use Rattle.wagons_and_orders.specs.OrderRow.{OrderRowValue, placed_row}
use Rattle.fleet_rows.specs.Kept.{IsWagonRows}
use Rattle.fleet_rows.proofs.Wagons.{found_is, number-wagon_in}
use Rattle.fleet_rows.specs.Rows.{wagon_in, order_in, at_wagon, at_order, max_open_wagons, open_wagons, promised_to, taken_back, with_promise}
use Rattle.operating_db.specs.inner.EventParts.{IsNext, unpromised_among}
use Rattle.operating_db.specs.MessageChange.{IsChange}
use Rattle.faults.specs.declared.faults.ApplyFault.{ApplyFault}
use Rattle.faults.specs.declared.faults.ApplyFault.TheVariants.{OrderClosed, OrderKnown, TooManyOpen}
use Rattle.operating_db.specs.After.{after_order, message_to, moved, order_place, orders_after, unpromised, withdrawn_from}
use Rattle.operating_db.specs.Commits.{Pair}
use Rattle.operating_db.specs.Office.{Office}
use Rattle.operating_db.specs.RosterOffice.{first_office}
use Rattle.operating_db.specs.State.{StateValue, IsState}
use Rattle.operating_db.specs.Promises.{is_among, promised_of, PromisesAgree}
use Rattle.line_network.specs.NetworkCount.{max_networks}
use Rattle.operating_db.proofs.Changes.{among_known, order_known, withdrawn_wagons}
use Rattle.operating_db.proofs.Events.{change_kept, not_there, placed_kept, rosters_agree, step_keeps, withdrawn_kept}
use Rattle.operating_db.proofs.KeptOrders.{next_keeps}

-- the state with other rows
abbrev pub with_rows : StateValue → List WagonRow → List OrderRowValue → StateValue
with_rows state wagons orders = record state { office = record state.office { wagons = wagons; orders = orders } }

rows_state : (state : StateValue) (wagons : List WagonRow) (orders : List OrderRowValue) → PromisesAgree (record state.office { wagons = wagons; orders = orders }) → IsState state → IsState (with_rows state wagons orders)
rows_state state wagons orders agree h = record { promises = agree; from_one = h.from_one; in_force = h.in_force; few = h.few }

agree_by : (office : Office) (wagons wagons' : List WagonRow) (orders orders' : List OrderRowValue) → wagons ≡ wagons' → orders ≡ orders' → PromisesAgree (record office { wagons = wagons'; orders = orders' }) → PromisesAgree (record office { wagons = wagons; orders = orders })
agree_by office wagons wagons' orders orders' e f h =
    subst (λ (w : List WagonRow). PromisesAgree (record office { wagons = w; orders = orders })) (sym e) (subst (λ (o : List OrderRowValue). PromisesAgree (record office { wagons = wagons'; orders = o })) (sym f) h)

pub new_state : (roster wagons : List WagonRow) (orders : List OrderRowValue) (networks : ℕ) → IsRoster roster → wagons ≡ roster → orders ≡ [] → 1 ≤ networks → networks ≤ max_networks
    → IsState (record { office = record { wagons = wagons; orders = orders; network = 1 }; networks = networks })
new_state roster wagons orders networks h e f least most = record {
  promises = agree_by (first_office roster) wagons roster orders [] e f (rosters_agree roster h);
  from_one = omega arith;
  in_force = least;
  few = most;
}

known_none : (known : Bool) (rest : Result Office ApplyFault) → IsOk (cond known (Err OrderKnown) rest) → known ≡ false
known_none true rest h = cc h
known_none false rest h = refl

-- an order that may be placed is new
pub order_new : {A : Type 0} (office : Office) (text : Order) (r : Result A ApplyFault) → OnOk r (IsOk (after_order office text)) → ((fault : ApplyFault) → r ≡ Err fault → ⊥) → order_in office.orders text.id ≡ None
order_new office text (Ok x) possible not_refused =
    not_there (order_in office.orders text.id) (known_none (is_some (order_in office.orders text.id)) (cond (nat_lt max_open_wagons (open_wagons office.orders + text.wagons)) (Err TooManyOpen) (Ok (record office { orders = office.orders ++ placed_row text ∷ [] }))) possible)
order_new office text (Err fault) possible not_refused = absurd (not_refused fault refl)

pub placed_state : {A E : Type 0} (state : StateValue) (text : Order) (orders : List OrderRowValue) (r : Result A E) → order_in state.office.orders text.id ≡ None → OnOk r (orders ≡ state.office.orders ++ placed_row text ∷ []) → OnErr r (orders ≡ state.office.orders) → IsState state → IsState (with_rows state state.office.wagons orders)
placed_state state text orders (Ok x) new added refused h = rows_state state state.office.wagons orders (agree_by state.office state.office.wagons state.office.wagons orders _ refl added (placed_kept state.office text new h.promises).promises) h
placed_state state text orders (Err x) new added refused h = rows_state state state.office.wagons orders (agree_by state.office state.office.wagons state.office.wagons orders _ refl refused h.promises) h

pub promised_state : (state : StateValue) (pair : Pair) (wagons : List WagonRow) (orders : List OrderRowValue) → wagons ≡ at_wagon pair.0 (with_promise (Some pair.1)) state.office.wagons → orders ≡ at_order pair.1 (promised_to pair.0) state.office.orders → IsNext state.office pair → IsState state → IsState (with_rows state wagons orders)
promised_state state pair wagons orders e f next h = rows_state state wagons orders (agree_by state.office wagons _ orders _ e f (next_keeps state.office pair next h.promises)) h

-- the wagons and the orders of a withdrawal
pub withdrawn_is : (office : Office) (id : List ℕ) (order : OrderRowValue) (promised : List (List ℕ)) (wagons : List WagonRow) → PromisesAgree office → IsWagonRows office.wagons → Some order ≡ order_in office.orders id → promised ≡ order.promised → wagons ≡ unpromised_among promised office.wagons → wagons ≡ map (unpromised id) office.wagons
withdrawn_is office id order promised wagons agree kept there is ended =
    ended ∙ (ap (λ (ns : List (List ℕ)). unpromised_among ns office.wagons) is ∙ withdrawn_wagons office id order agree.agree kept (sym there))

pub withdrawn_state : (state : StateValue) (id : List ℕ) (wagons : List WagonRow) (orders : List OrderRowValue) → wagons ≡ map (unpromised id) state.office.wagons → orders ≡ at_order id taken_back state.office.orders → IsState state → IsState (with_rows state wagons orders)
withdrawn_state state id wagons orders e f h = rows_state state wagons orders (agree_by state.office wagons _ orders _ e f (withdrawn_kept state.office id h.promises).promises) h

some_order : {A B : Type 0} (f : A → B) (o : Option A) → IsSome o → IsSome (option_map f o)
some_order f None h = h
some_order f (Some x) h = refl

place_by : (office : Office) (n : List ℕ) (row : WagonRow) (r p : Option (List ℕ)) → Some row ≡ wagon_in office.wagons n → row.promise ≡ p → r ≡ order_place office.orders p → PromisesAgree office → IsSome r ↔ IsSome p
place_by office n row r None found had is agree = ((λ h. subst (λ (o : Option (List ℕ)). IsSome o) is h), (λ h. cc h))
place_by office n row r (Some id) found had is agree =
    let known : IsSome (order_in office.orders id) = among_known n (order_in office.orders id) (order_known office n row id found had agree.agree) in
    ((λ h. refl), (λ h. subst (λ (o : Option (List ℕ)). IsSome o) (sym is) (some_order (λ (row : OrderRowValue). row.text.place) (order_in office.orders id) known)))

pub place_there : (office : Office) (n : List ℕ) (row : WagonRow) (r : Option (List ℕ)) → Some row ≡ wagon_in office.wagons n → r ≡ order_place office.orders row.promise → PromisesAgree office → IsSome r ↔ IsSome row.promise
place_there office n row r found is agree = place_by office n row r row.promise found refl is agree

-- ---- what a message changes

change_number : (office : Office) (m : message.Message) (change : Change) (promise : Option (List ℕ)) → IsChange office m change promise → change.row.number ≡ m.wagon
change_number office m change promise h =
    (step_keeps h.row m (order_place office.orders h.row.promise) change h.stepped).number ∙ number-wagon_in office.wagons m.wagon h.row h.found

-- the row that it leads to is one that an office can have
pub change_possible : (office : Office) (m : message.Message) (change : Change) (promise : Option (List ℕ)) → IsChange office m change promise → IsWagonRows office.wagons → IsPossibleRow change.row
change_possible office m change promise h valid =
    let each = found_is IsPossibleRow m.wagon office.wagons valid.possible in
    let before : IsPossibleRow h.row = subst (λ (row : Option WagonRow). IfSome row IsPossibleRow) h.found each in
    stay_possible h.row m (order_place office.orders h.row.promise) change h.stepped before

settles_by : (office : Office) (n : List ℕ) (row : WagonRow) (p : Option (List ℕ)) → Some row ≡ wagon_in office.wagons n → p ≡ row.promise → PromisesAgree office → IfSome p (λ id. is_among n (promised_of (order_in office.orders id)) ≡ true)
settles_by office n row None found is agree = tt
settles_by office n row (Some id) found is agree = order_known office n row id found (sym is) agree.agree

pub change_settles : (office : Office) (m : message.Message) (change : Change) (promise : Option (List ℕ)) → IsChange office m change promise → PromisesAgree office → IfSome promise (λ id. is_among m.wagon (promised_of (order_in office.orders id)) ≡ true)
change_settles office m change promise h agree = settles_by office m.wagon h.row promise (sym h.found) h.promise_is agree

change_wagons : (office : Office) (m : message.Message) (change : Change) (promise : Option (List ℕ)) (wagons : List WagonRow) → IsChange office m change promise → wagons ≡ at_wagon change.row.number (λ _. change.row) office.wagons → wagons ≡ at_wagon m.wagon (λ _. change.row) office.wagons
change_wagons office m change promise wagons h e = e ∙ ap (λ (n : List ℕ). at_wagon n (λ _. change.row) office.wagons) (change_number office m change promise h)

change_orders : (office : Office) (m : message.Message) (change : Change) (promise : Option (List ℕ)) (orders : List OrderRowValue) (h : IsChange office m change promise) → orders ≡ orders_after change.effect promise m.wagon office.orders → orders ≡ orders_after change.effect h.row.promise m.wagon office.orders
change_orders office m change promise orders h e = e ∙ ap (λ (p : Option (List ℕ)). orders_after change.effect p m.wagon office.orders) h.promise_is

pub change_state : (state : StateValue) (m : message.Message) (change : Change) (promise : Option (List ℕ)) (wagons : List WagonRow) (orders : List OrderRowValue) → IsChange state.office m change promise
    → wagons ≡ at_wagon change.row.number (λ _. change.row) state.office.wagons → orders ≡ orders_after change.effect promise m.wagon state.office.orders → IsState state → IsState (with_rows state wagons orders)
change_state state m change promise wagons orders h e f kept =
    rows_state state wagons orders (agree_by state.office wagons _ orders _ (change_wagons state.office m change promise wagons h e) (change_orders state.office m change promise orders h f)
    (change_kept state.office m.wagon h.row change h.found (step_keeps h.row m (order_place state.office.orders h.row.promise) change h.stepped) kept.promises).promises) kept

rows_are : (office : Office) (wagons wagons' : List WagonRow) (orders orders' : List OrderRowValue) → wagons ≡ wagons' → orders ≡ orders' → let r : Result Office ApplyFault = Ok (record office { wagons = wagons'; orders = orders' }) in r ≡ Ok (record office { wagons = wagons; orders = orders })
rows_are office wagons wagons' orders orders' e f = cc

pub change_done : (office : Office) (m : message.Message) (change : Change) (promise : Option (List ℕ)) (wagons : List WagonRow) (orders : List OrderRowValue) → IsChange office m change promise
    → wagons ≡ at_wagon change.row.number (λ _. change.row) office.wagons → orders ≡ orders_after change.effect promise m.wagon office.orders
    → message_to office m (wagon_in office.wagons m.wagon) ≡ Ok (record office { wagons = wagons; orders = orders })
change_done office m change promise wagons orders h e f =
    ap (message_to office m) h.found ∙ (ap (moved office m.wagon h.row.promise) h.stepped
    ∙ rows_are office wagons _ orders _ (change_wagons office m change promise wagons h e) (change_orders office m change promise orders h f))

-- ---- a withdrawal

open_done : (office : Office) (id : List ℕ) (b : Bool) (wagons : List WagonRow) (orders : List OrderRowValue) → b ≡ true → wagons ≡ map (unpromised id) office.wagons → orders ≡ at_order id taken_back office.orders
    → cond b (Ok (record office { wagons = map (unpromised id) office.wagons; orders = at_order id taken_back office.orders })) (Err OrderClosed) ≡ Ok (record office { wagons = wagons; orders = orders })
open_done office id true wagons orders is e f = rows_are office wagons _ orders _ e f
open_done office id false wagons orders is e f = cc is

pub withdrawn_done : (office : Office) (id : List ℕ) (order : OrderRowValue) (wagons : List WagonRow) (orders : List OrderRowValue) → Some order ≡ order_in office.orders id → is_open order ≡ true → wagons ≡ map (unpromised id) office.wagons → orders ≡ at_order id taken_back office.orders
    → withdrawn_from office id (order_in office.orders id) ≡ Ok (record office { wagons = wagons; orders = orders })
withdrawn_done office id order wagons orders there is e f = ap (withdrawn_from office id) (sym there) ∙ open_done office id (is_open order) wagons orders is e f
