-- What each event keeps.
use Rattle.std.proofs.Common.{◌≡◌, ◌∙◌, ℕ, ◌+◌, Bool, true, false, cond, ◌||◌, List, [], ◌∷◌, ◌++◌, map, refl, ap, sym, subst, append-nil, append_assoc, arith}
use Rattle.std.specs.Prelude.{◌==◌, nat_lt, Option, Some, None, is_some, Result, Ok, Err, All}
use Rattle.std.proofs.lemmas.List.Elements.{All-head, All-tail}
use Rattle.move_messages.specs.Order.{Order}
use Rattle.move_messages.specs.declared.message.Message as message
use Rattle.wagons_and_orders.specs.declared.change.Change.{Change}
use Rattle.wagons_and_orders.specs.declared.change.Effect.{Effect}
use Rattle.wagons_and_orders.specs.declared.change.Effect.TheVariants as effect
use Rattle.faults.specs.declared.faults.StepFault.{StepFault}
use Rattle.faults.specs.declared.faults.StepFault.TheVariants.{Earlier, WrongPlace}
use Rattle.wagons_and_orders.specs.declared.wagon_row.WagonRow.{WagonRow}
use Rattle.wagons_and_orders.specs.StatusTable.{step_of, fitted, change_by, promise_after, effect_on, transition_of, is_at}
use Rattle.fleet_rows.specs.Roster.{IsRoster, IsRosterRow}
use Rattle.wagons_and_orders.specs.Lack.{is_open}
use Rattle.wagons_and_orders.specs.OrderRow.{OrderRowValue, placed_row}
use Rattle.fleet_rows.proofs.Wagons.{IsWagonRows-roster, number-wagon_in}
use Rattle.fleet_rows.specs.Rows.{wagon_in, order_in, at_wagon, at_order, max_open_wagons, open_wagons, filled_by, freed_of, taken_back, promised_to}
use Rattle.faults.specs.declared.faults.ApplyFault.TheVariants.{OrderKnown, TooManyOpen, OrderClosed, UnknownNetwork, SameNetwork}
use Rattle.move_messages.specs.declared.event.Event.{Event}
use Rattle.move_messages.specs.declared.event.Event.TheVariants.{Message, Place, Withdraw, Commit, Revise}
use Rattle.operating_db.specs.After.{orders_after, order_place, moved, message_to, unpromised, withdrawn_from, after_call}
use Rattle.operating_db.specs.Commits.{Pair, given_to, promise_pair, promise_all}
use Rattle.operating_db.specs.Laws.{IsKept, EventsKeepOffices, RostersBegin, numbers_of, texts_of, Steps}
use Rattle.operating_db.specs.Office.{Office}
use Rattle.operating_db.specs.RosterOffice.{first_office}
use Rattle.operating_db.specs.Promises.{is_promise_to, promise_of, PromisesAgree, SidesAgree}
use Rattle.operating_db.proofs.Agree.{kept_agree, released_agree, withdrawn_agree, ordered_agree, number-unpromised}
use Rattle.operating_db.proofs.Changes.{among_promised, order_known}
use Rattle.operating_db.proofs.Commits.{next_of_can, AreNext}
use Rattle.operating_db.proofs.KeptOrders.{all_agree, both_agree, kept_orders, kept_push, kept_settled, kept_withdrawn, none_kept}
use Rattle.operating_db.proofs.Names.{same, same_is}

same_ok : {A E : Type 0} (x y : A) → let r : Result A E = Ok x in r ≡ Ok y → x ≡ y
same_ok x y h = cc

-- ---- what a message leaves of a row

pub record KeepsRow (row : WagonRow) (change : Change) : Type 0 where
  pub number : change.row.number ≡ row.number
  pub promise : change.row.promise ≡ promise_after change.effect row.promise

on_promise : (e : Effect) (p : Option (List ℕ)) → promise_after e p ≡ promise_after (effect_on p e) p
on_promise effect.None None = refl
on_promise effect.Fills None = refl
on_promise effect.Ends None = refl
on_promise e (Some id) = refl

by_line : (row : WagonRow) (m : message.Message) (line : _) → KeepsRow row (change_by row m line)
by_line row m line = record { number = refl; promise = on_promise line.effect row.promise }

placed_keeps : (row : WagonRow) (m : message.Message) (line : _) (b : Bool) (change : Change) → cond b (Err WrongPlace) (Ok (change_by row m line)) ≡ Ok change → KeepsRow row change
placed_keeps row m line true change h = cc
placed_keeps row m line false change h = subst (KeepsRow row) (same_ok _ change h) (by_line row m line)

fitted_keeps : (row : WagonRow) (m : message.Message) (line : _) (change : Change) → fitted row m line ≡ Ok change → KeepsRow row change
fitted_keeps row m None change h = cc
fitted_keeps row m (Some line) change h = placed_keeps row m line _ change h

later : (b : Bool) (r : Result Change StepFault) (change : Change) → cond b (Err Earlier) r ≡ Ok change → r ≡ Ok change
later true r change h = cc
later false r change h = h

pub step_keeps : (row : WagonRow) (m : message.Message) (place : Option (List ℕ)) (change : Change) → step_of row m place ≡ Ok change → KeepsRow row change
unfolding step_of
step_keeps row m place change h =
    fitted_keeps row m (transition_of m.kind row.status (is_at place m.place) m.place m.moment) change (later (nat_lt m.moment row.last) _ change h)

-- ---- numbers of wagons, texts of orders

part_stays : {R K : Type 0} (part : R → K) (f : R → R) (row : R) (here : Bool) → (here ≡ true → part (f row) ≡ part row) → part (cond here (f row) row) ≡ part row
part_stays part f row true h = h refl
part_stays part f row false h = refl

-- the rows with a change at a name
abbrev changed : {R : Type 0} → (R → List ℕ) → List ℕ → (R → R) → List R → List R
changed key name change rows = map (λ row. cond (same name (key row)) (change row) row) rows

map-changed : {R K : Type 0} (key : R → List ℕ) (part : R → K) (n : List ℕ) (f : R → R) → ((row : R) → key row ≡ n → part (f row) ≡ part row) → (rows : List R) → map part (changed key n f rows) ≡ map part rows
map-changed key part n f keeps [] = refl
map-changed key part n f keeps (row ∷ rows) =
    ap (λ k. k ∷ map part (changed key n f rows)) (part_stays part f row (same n (key row)) (λ e. keeps row (sym (same_is n (key row) e)))) ∙ ap (λ ks. part row ∷ ks) (map-changed key part n f keeps rows)

numbers-at : (n : List ℕ) (f : WagonRow → WagonRow) → ((row : WagonRow) → row.number ≡ n → (f row).number ≡ row.number) → (rows : List WagonRow) → map (λ (r : WagonRow). r.number) (at_wagon n f rows) ≡ map (λ (r : WagonRow). r.number) rows
numbers-at n f keeps rows = map-changed (λ (r : WagonRow). r.number) (λ (r : WagonRow). r.number) n f keeps rows

texts-at : (n : List ℕ) (f : OrderRowValue → OrderRowValue) → ((row : OrderRowValue) → (f row).text ≡ row.text) → (rows : List OrderRowValue) → map (λ (r : OrderRowValue). r.text) (at_order n f rows) ≡ map (λ (r : OrderRowValue). r.text) rows
texts-at n f keeps rows = map-changed (λ (r : OrderRowValue). r.text.id) (λ (r : OrderRowValue). r.text) n f (λ r e. keeps r) rows

numbers-unpromised : (id : List ℕ) (rows : List WagonRow) → map (λ (r : WagonRow). r.number) (map (unpromised id) rows) ≡ map (λ (r : WagonRow). r.number) rows
numbers-unpromised id [] = refl
numbers-unpromised id (row ∷ rows) =
    ap (λ n. n ∷ map (λ (r : WagonRow). r.number) (map (unpromised id) rows)) (number-unpromised (is_promise_to row.promise id) row) ∙ ap (λ ns. row.number ∷ ns) (numbers-unpromised id rows)

texts-push : (rows : List OrderRowValue) (new : OrderRowValue) → map (λ (r : OrderRowValue). r.text) (rows ++ new ∷ []) ≡ map (λ (r : OrderRowValue). r.text) rows ++ new.text ∷ []
texts-push [] new = refl
texts-push (row ∷ rows) new = ap (λ ts. row.text ∷ ts) (texts-push rows new)

-- the wagons and orders of an office stay
abbrev AreSame : Office → Office → Type 0
AreSame before after = (numbers_of after ≡ numbers_of before) × (texts_of after ≡ texts_of before)

kept_of_same : (before after : Office) → PromisesAgree after → AreSame before after → IsKept before after
kept_of_same before after agree same_rows = record { promises = agree; wagons = same_rows.0; orders = ([], same_rows.1 ∙ sym (append-nil (texts_of before))) }

-- ---- messages

abbrev after_change : Office → List ℕ → Option (List ℕ) → Change → Office
after_change office w promise change = record office { wagons = at_wagon w (λ _. change.row) office.wagons; orders = orders_after change.effect promise w office.orders }

effect_agree : (office : Office) (w : List ℕ) (row new : WagonRow) (e : Effect) (promise : Option (List ℕ)) → wagon_in office.wagons w ≡ Some row → new.number ≡ w → row.promise ≡ promise → new.promise ≡ promise_after e promise → SidesAgree office
    → SidesAgree (record office { wagons = at_wagon w (λ _. new) office.wagons; orders = orders_after e promise w office.orders })
effect_agree office w row new effect.None promise found number had now agree = kept_agree office w row new found number (now ∙ sym had) agree
effect_agree office w row new effect.Fills None found number had now agree = kept_agree office w row new found number (now ∙ sym had) agree
effect_agree office w row new effect.Ends None found number had now agree = kept_agree office w row new found number (now ∙ sym had) agree
effect_agree office w row new effect.Fills (Some id) found number had now agree = released_agree office w id row new (filled_by w) (λ r. refl) (λ r. refl) found number had now agree
effect_agree office w row new effect.Ends (Some id) found number had now agree = released_agree office w id row new (freed_of w) (λ r. refl) (λ r. refl) found number had now agree

effect_texts : (e : Effect) (promise : Option (List ℕ)) (w : List ℕ) (orders : List OrderRowValue) → map (λ (r : OrderRowValue). r.text) (orders_after e promise w orders) ≡ map (λ (r : OrderRowValue). r.text) orders
effect_texts effect.None promise w orders = refl
effect_texts effect.Fills None w orders = refl
effect_texts effect.Ends None w orders = refl
effect_texts effect.Fills (Some id) w orders = texts-at id (filled_by w) (λ r. refl) orders
effect_texts effect.Ends (Some id) w orders = texts-at id (freed_of w) (λ r. refl) orders

pub change_kept : (office : Office) (w : List ℕ) (row : WagonRow) (change : Change) → wagon_in office.wagons w ≡ Some row → KeepsRow row change → PromisesAgree office → IsKept office (after_change office w row.promise change)
change_kept office w row change found keeps agree =
    let number = keeps.number ∙ number-wagon_in office.wagons w row found in
    kept_of_same office (after_change office w row.promise change)
    (both_agree (after_change office w row.promise change) (effect_agree office w row change.row change.effect row.promise found number refl keeps.promise agree.agree)
    (kept_settled change.effect row.promise w office.orders (λ id had. among_promised w (order_in office.orders id) (order_known office w row id (sym found) had agree.agree)) (kept_orders office agree)))
    (numbers-at w (λ _. change.row) (λ r e. number ∙ sym e) office.wagons, effect_texts change.effect row.promise w office.orders)

moved_kept : (office : Office) (w : List ℕ) (row : WagonRow) (r : Result Change StepFault) (new : Office) → wagon_in office.wagons w ≡ Some row → ((change : Change) → r ≡ Ok change → KeepsRow row change) → moved office w row.promise r ≡ Ok new → PromisesAgree office → IsKept office new
moved_kept office w row (Err fault) new found keeps h agree = cc
moved_kept office w row (Ok change) new found keeps h agree = subst (IsKept office) (same_ok _ new h) (change_kept office w row change found (keeps change refl) agree)

message_kept : (office : Office) (m : message.Message) (o : Option WagonRow) (new : Office) → wagon_in office.wagons m.wagon ≡ o → message_to office m o ≡ Ok new → PromisesAgree office → IsKept office new
message_kept office m None new is h agree = cc
message_kept office m (Some row) new is h agree =
    moved_kept office m.wagon row (step_of row m (order_place office.orders row.promise)) new is (λ change e. step_keeps row m (order_place office.orders row.promise) change e) h agree

-- ---- orders

pub placed_kept : (office : Office) (text : Order) → order_in office.orders text.id ≡ None → PromisesAgree office → IsKept office (record office { orders = office.orders ++ placed_row text ∷ [] })
placed_kept office text new agree = record {
  promises = both_agree (record office { orders = office.orders ++ placed_row text ∷ [] }) (ordered_agree office (placed_row text) refl agree.agree) (kept_push office.orders text new (kept_orders office agree));
  wagons = refl;
  orders = (text ∷ [], texts-push office.orders (placed_row text));
}

pub not_there : {A : Type 0} (o : Option A) → is_some o ≡ false → o ≡ None
not_there None h = refl
not_there (Some x) h = cc h

order_kept : (office : Office) (text : Order) (known full : Bool) (new : Office) → is_some (order_in office.orders text.id) ≡ known
    → cond known (Err OrderKnown) (cond full (Err TooManyOpen) (Ok (record office { orders = office.orders ++ placed_row text ∷ [] }))) ≡ Ok new → PromisesAgree office → IsKept office new
order_kept office text true full new is h agree = cc
order_kept office text false true new is h agree = cc
order_kept office text false false new is h agree = subst (IsKept office) (same_ok _ new h) (placed_kept office text (not_there (order_in office.orders text.id) is) agree)

pub withdrawn_kept : (office : Office) (id : List ℕ) → PromisesAgree office → IsKept office (record office { wagons = map (unpromised id) office.wagons; orders = at_order id taken_back office.orders })
withdrawn_kept office id agree =
    kept_of_same office _ (both_agree (record office { wagons = map (unpromised id) office.wagons; orders = at_order id taken_back office.orders }) (withdrawn_agree office id agree.agree) (kept_withdrawn id office.orders (kept_orders office agree))) (numbers-unpromised id office.wagons, texts-at id taken_back (λ r. refl) office.orders)

open_kept : (office : Office) (id : List ℕ) (b : Bool) (new : Office)
    → cond b (Ok (record office { wagons = map (unpromised id) office.wagons; orders = at_order id taken_back office.orders })) (Err OrderClosed) ≡ Ok new → PromisesAgree office → IsKept office new
open_kept office id true new h agree = subst (IsKept office) (same_ok _ new h) (withdrawn_kept office id agree)
open_kept office id false new h agree = cc

withdraw_kept : (office : Office) (id : List ℕ) (o : Option OrderRowValue) (new : Office) → withdrawn_from office id o ≡ Ok new → PromisesAgree office → IsKept office new
withdraw_kept office id None new h agree = cc
withdraw_kept office id (Some row) new h agree = open_kept office id (is_open row) new h agree

-- ---- commits and revisions

all_same : (office : Office) (pairs : List Pair) → AreSame office (promise_all office pairs)
all_same office [] = (refl, refl)
all_same office (p ∷ ps) =
    let rest = all_same (promise_pair office p) ps in
    (rest.0 ∙ numbers-at p.0 (given_to p.1) (λ r e. refl) office.wagons, rest.1 ∙ texts-at p.1 (promised_to p.0) (λ r. refl) office.orders)

pub committed_kept : (office : Office) (pairs : List Pair) → AreNext office pairs → PromisesAgree office → IsKept office (promise_all office pairs)
committed_kept office pairs next agree = kept_of_same office (promise_all office pairs) (all_agree office pairs next agree) (all_same office pairs)

revise_kept : (office : Office) (k : ℕ) (unknown known : Bool) (new : Office)
    → cond unknown (Err UnknownNetwork) (cond known (Err SameNetwork) (Ok (record office { network = k }))) ≡ Ok new → PromisesAgree office → IsKept office new
revise_kept office k true known new h agree = cc
revise_kept office k false true new h agree = cc
revise_kept office k false false new h agree = subst (IsKept office) (same_ok _ new h) (kept_of_same office (record office { network = k }) (both_agree (record office { network = k }) agree.agree (kept_orders office agree)) (refl, refl))

-- ---- each event, and any list of them

pub step_kept : (networks : ℕ) (office : Office) (event : Event) (new : Office) → Steps networks office event new → PromisesAgree office → IsKept office new
unfolding after_call
step_kept networks office (Message m) new h agree = message_kept office m (wagon_in office.wagons m.wagon) new refl h.1 agree
step_kept networks office (Place text) new h agree = order_kept office text (is_some (order_in office.orders text.id)) (nat_lt max_open_wagons (open_wagons office.orders + text.wagons)) new refl h.1 agree
step_kept networks office (Withdraw id) new h agree = withdraw_kept office id (order_in office.orders id) new h.1 agree
step_kept networks office (Commit c) new h agree = subst (IsKept office) (same_ok _ new h.1) (committed_kept office c.pairs (next_of_can office c.pairs h.0) agree)
step_kept networks office (Revise k) new h agree = revise_kept office k (k == 0 || nat_lt networks k) (k == office.network) new h.1 agree

kept_on : (first second third : Office) → IsKept first second → IsKept second third → IsKept first third
kept_on first second third h g = record {
  promises = g.promises;
  wagons = g.wagons ∙ h.wagons;
  orders = (h.orders.0 ++ g.orders.0, g.orders.1 ∙ (ap (λ ts. ts ++ g.orders.0) h.orders.1 ∙ append_assoc (texts_of first) h.orders.0 g.orders.0));
}

pub events_keep : EventsKeepOffices
events_keep networks office [] after agree h = subst (IsKept office) (sym h) (kept_of_same office office agree (refl, refl))
events_keep networks office (event ∷ events) after agree h =
    let first = step_kept networks office event h.0 h.1 agree in
    kept_on office h.0 after first (events_keep networks h.0 events after first.promises h.2)

-- ---- rosters

no_promise : (b : Bool) (row : WagonRow) (rest : Option WagonRow) → row.promise ≡ None → promise_of rest ≡ None → promise_of (cond b (Some row) rest) ≡ None
no_promise true row rest here h = here
no_promise false row rest here h = h

no_promises : (rows : List WagonRow) → All IsRosterRow rows → (n : List ℕ) → promise_of (wagon_in rows n) ≡ None
no_promises [] all n = refl
no_promises (row ∷ rows) all n = no_promise (same n row.number) row (wagon_in rows n) (All-head IsRosterRow row rows all).not_promised (no_promises rows (All-tail IsRosterRow row rows all) n)

pub rosters_agree : (roster : List WagonRow) → IsRoster roster → PromisesAgree (first_office roster)
rosters_agree roster h = both_agree (first_office roster) (λ n id. ap (λ (p : Option (List ℕ)). is_promise_to p id) (no_promises roster h.each n)) none_kept

pub rosters_begin : RostersBegin
rosters_begin roster h networks some = record {
  wagons = IsWagonRows-roster roster h;
  promises = rosters_agree roster h;
  few_open = omega arith;
  from_one = omega arith;
  in_force = some;
}
