-- The promises of wagons and of orders agree after each change.
use Rattle.std.proofs.Common.{◌≡◌, ◌∙◌, ℕ, Bool, true, false, cond, not, ◌||◌, ◌&&◌, List, [], ◌∷◌, ◌++◌, map, refl, ap, sym}
use Rattle.std.specs.Prelude.{Option, Some, None, option_map}
use Rattle.wagons_and_orders.specs.declared.wagon_row.WagonRow.{WagonRow}
use Rattle.wagons_and_orders.specs.Numbers.{with_number, without_number}
use Rattle.wagons_and_orders.specs.OrderRow.{OrderRowValue}
use Rattle.fleet_rows.specs.Rows.{wagon_in, order_in, at_wagon, at_order, promised_to, taken_back}
use Rattle.operating_db.specs.After.{unpromised}
use Rattle.operating_db.specs.Commits.{given_to, promise_pair}
use Rattle.operating_db.specs.Office.{Office}
use Rattle.operating_db.specs.Promises.{is_promise_to, is_among, promise_of, promised_of, SidesAgree}
use Rattle.operating_db.proofs.Lookups.{wagon_in-mapped, promise-at, promised-at, promised-at_row, promised-push}
use Rattle.operating_db.proofs.Names.{same, same_is, same_sym, same_left, same_right, among-with, among-without, without-nil}

promise-cond : (b : Bool) (p r : Option (List ℕ)) (q : List ℕ) → is_promise_to (cond b p r) q ≡ cond b (is_promise_to p q) (is_promise_to r q)
promise-cond true p r q = refl
promise-cond false p r q = refl

among-cond : (b : Bool) (xs ys : List (List ℕ)) (x : List ℕ) → is_among x (cond b xs ys) ≡ cond b (is_among x xs) (is_among x ys)
among-cond true xs ys x = refl
among-cond false xs ys x = refl

-- whether the wagon at a number is promised to q, by the row that stands there
at_row : (office : Office) (w x q : List ℕ) (row : WagonRow) → wagon_in office.wagons w ≡ Some row → same w x ≡ true → is_promise_to (promise_of (wagon_in office.wagons x)) q ≡ is_promise_to row.promise q
at_row office w x q row found is = ap (λ (o : Option WagonRow). is_promise_to (promise_of o) q) (ap (wagon_in office.wagons) (sym (same_is w x is)) ∙ found)

-- A wagon gets a new row that keeps its promise.
kept_step : (b : Bool) (p r : Option (List ℕ)) → (b ≡ true → p ≡ r) → cond b p r ≡ r
kept_step true p r h = h refl
kept_step false p r h = refl

pub kept_agree : (office : Office) (w : List ℕ) (row new : WagonRow) → wagon_in office.wagons w ≡ Some row → new.number ≡ w → new.promise ≡ row.promise → SidesAgree office
    → SidesAgree (record office { wagons = at_wagon w (λ _. new) office.wagons })
kept_agree office w row new found number stays agree x q =
    let left = promise-at w (λ _. new) (λ r e. number ∙ sym e) office.wagons row found x in
    let there : same w x ≡ true → new.promise ≡ promise_of (wagon_in office.wagons x) =
    λ e. stays ∙ sym (ap promise_of (ap (wagon_in office.wagons) (sym (same_is w x e)) ∙ found)) in
    ap (λ (p : Option (List ℕ)). is_promise_to p q) (left ∙ kept_step (same w x) new.promise (promise_of (wagon_in office.wagons x)) there) ∙ agree x q

-- A wagon loses its promise, and its order loses the wagon.
released_step : (here there promised among : Bool) → promised ≡ among → (here ≡ true → among ≡ there) → cond here false promised ≡ cond there (among && not here) among
released_step true true promised true e h = refl
released_step true true promised false e h = refl
released_step true false promised among e h = sym (h refl)
released_step false true promised true e h = e
released_step false true promised false e h = e
released_step false false promised among e h = e

pub released_agree : (office : Office) (w id : List ℕ) (row new : WagonRow) (f : OrderRowValue → OrderRowValue) → ((r : OrderRowValue) → (f r).text.id ≡ r.text.id) → ((r : OrderRowValue) → (f r).promised ≡ without_number w r.promised)
    → wagon_in office.wagons w ≡ Some row → new.number ≡ w → row.promise ≡ Some id → new.promise ≡ None → SidesAgree office
    → SidesAgree (record office { wagons = at_wagon w (λ _. new) office.wagons; orders = at_order id f office.orders })
released_agree office w id row new f keeps is found number had none agree x q =
    let before = promise_of (wagon_in office.wagons x) in
    let promised = promised_of (order_in office.orders q) in
    let left = promise-at w (λ _. new) (λ r e. number ∙ sym e) office.wagons row found x ∙ ap (λ (p : Option (List ℕ)). cond (same w x) p before) none in
    let right = promised-at id f (λ r e. keeps r) (without_number w) is (without-nil w) office.orders q in
    let there : same w x ≡ true → is_among x promised ≡ same id q =
    λ e. sym (agree x q) ∙ (at_row office w x q row found e ∙ (ap (λ (p : Option (List ℕ)). is_promise_to p q) had ∙ same_sym q id)) in
    ap (λ (p : Option (List ℕ)). is_promise_to p q) left ∙ (promise-cond (same w x) None before q ∙
    (released_step (same w x) (same id q) (is_promise_to before q) (is_among x promised) (agree x q) there
    ∙ sym (ap (is_among x) right ∙ (among-cond (same id q) (without_number w promised) promised x ∙ ap (λ (b : Bool). cond (same id q) b (is_among x promised)) (among-without w x promised)))))

-- A wagon without a promise is promised to an order.
promised_step : (here there here' there' promised among of_order : Bool) → there' ≡ there → here' ≡ here → promised ≡ among → (there ≡ true → of_order ≡ among) → (here ≡ true → among ≡ false)
    → cond here there' promised ≡ cond there (here' || of_order) among
promised_step true true here' there' promised among of_order t h e o n = cc
promised_step true false here' there' promised among of_order t h e o n = t ∙ sym (n refl)
promised_step false true here' there' promised among of_order t h e o n = e ∙ (sym (o refl) ∙ ap (λ (b : Bool). b || of_order) (sym h))
promised_step false false here' there' promised among of_order t h e o n = e

pub promised_agree : (office : Office) (w id : List ℕ) (row : WagonRow) (order : OrderRowValue) → wagon_in office.wagons w ≡ Some row → row.promise ≡ None → order_in office.orders id ≡ Some order → SidesAgree office → SidesAgree (promise_pair office (w, id))
promised_agree office w id row order found none there agree x q =
    let before = promise_of (wagon_in office.wagons x) in
    let promised = promised_of (order_in office.orders q) in
    let left = promise-at w (given_to id) (λ r e. refl) office.wagons row found x in
    let right = promised-at_row id (promised_to w) (λ r e. refl) office.orders order there q in
    let of_order : same id q ≡ true → is_among x order.promised ≡ is_among x promised =
    λ e. sym (ap (λ (o : Option OrderRowValue). is_among x (promised_of o)) (ap (order_in office.orders) (sym (same_is id q e)) ∙ there)) in
    let nothing : same w x ≡ true → is_among x promised ≡ false =
    λ e. sym (agree x q) ∙ (at_row office w x q row found e ∙ ap (λ (p : Option (List ℕ)). is_promise_to p q) none) in
    ap (λ (p : Option (List ℕ)). is_promise_to p q) left ∙ (promise-cond (same w x) (Some id) before q ∙
    (promised_step (same w x) (same id q) (same x w) (same q id) (is_promise_to before q) (is_among x promised) (is_among x order.promised) (same_sym q id) (same_sym x w) (agree x q) of_order nothing
    ∙ sym (ap (is_among x) right ∙ (among-cond (same id q) (with_number w order.promised) promised x ∙ ap (λ (b : Bool). cond (same id q) b (is_among x promised)) (among-with w x order.promised)))))

-- An order is taken back, and the wagons lose their promises to it.
pub number-unpromised : (b : Bool) (row : WagonRow) → (cond b (record row { promise = None }) row).number ≡ row.number
number-unpromised true row = refl
number-unpromised false row = refl

promise-unpromised : (b : Bool) (row : WagonRow) → (cond b (record row { promise = None }) row).promise ≡ cond b None row.promise
promise-unpromised true row = refl
promise-unpromised false row = refl

-- `gone`: the order that loses its promises is that of the promise; `this`: the promise is to q; `both`: q is that order
left_step : (gone this both : Bool) → (gone ≡ true → this ≡ both) → (both ≡ true → this ≡ gone) → cond gone false this ≡ (this && not both)
left_step true true true h g = refl
left_step true true false h g = cc (h refl)
left_step true false both h g = refl
left_step false true true h g = cc (g refl)
left_step false true false h g = refl
left_step false false both h g = refl

left_by : (id q : List ℕ) (promise : Option (List ℕ)) → is_promise_to (cond (is_promise_to promise id) None promise) q ≡ (is_promise_to promise q && not (same id q))
left_by id q None = refl
left_by id q (Some o) =
    promise-cond (same id o) None (Some o) q
    ∙ left_step (same id o) (same q o) (same id q) (λ e. sym (same_right id o q e) ∙ same_sym q id) (λ e. sym (same_left id q o e))

left-row : (id q : List ℕ) (row : Option WagonRow) → is_promise_to (promise_of (option_map (unpromised id) row)) q ≡ (is_promise_to (promise_of row) q && not (same id q))
left-row id q None = refl
left-row id q (Some row) = ap (λ (p : Option (List ℕ)). is_promise_to p q) (promise-unpromised (is_promise_to row.promise id) row) ∙ left_by id q row.promise

withdrawn_step : (there promised among : Bool) → promised ≡ among → (promised && not there) ≡ cond there false among
withdrawn_step true true among e = refl
withdrawn_step true false among e = refl
withdrawn_step false true among e = e
withdrawn_step false false among e = e

pub withdrawn_agree : (office : Office) (id : List ℕ) → SidesAgree office
    → SidesAgree (record office { wagons = map (unpromised id) office.wagons; orders = at_order id taken_back office.orders })
withdrawn_agree office id agree x q =
    let promised = promised_of (order_in office.orders q) in
    let left = wagon_in-mapped (unpromised id) (λ r. number-unpromised (is_promise_to r.promise id) r) office.wagons x in
    let right = promised-at id taken_back (λ r e. refl) (λ _. []) (λ r. refl) refl office.orders q in
    ap (λ (o : Option WagonRow). is_promise_to (promise_of o) q) left ∙ (left-row id q (wagon_in office.wagons x) ∙
    (withdrawn_step (same id q) _ (is_among x promised) (agree x q) ∙ sym (ap (is_among x) right ∙ among-cond (same id q) [] promised x)))

-- A new order is promised no wagon.
pub ordered_agree : (office : Office) (new : OrderRowValue) → new.promised ≡ [] → SidesAgree office → SidesAgree (record office { orders = office.orders ++ new ∷ [] })
ordered_agree office new none agree x q = agree x q ∙ sym (ap (is_among x) (promised-push office.orders new none q))
