-- When the two sides of the promises agree.
use Rattle.std.proofs.Common.{◌≡◌, ◌∙◌, ℕ, ◌<◌, ◌≤◌, Bool, true, false, List, [], ◌∷◌, length, get_or, refl, sym, ap, subst, Option, Some, None, IfSome, inl, inr}
use Rattle.std.specs.List.{Contains, find, list_all}
use Rattle.std.proofs.lemmas.Bool.{cases_Bool}
use Rattle.std.proofs.lemmas.List.Sums.{list_all-from_AllPass}
use Rattle.std.proofs.lemmas.Option.{get_or_from_slice_get, slice_get-get_or}
use Rattle.wagons_and_orders.specs.declared.wagon_row.WagonRow.{WagonRow}
use Rattle.wagons_and_orders.specs.OrderRow.{IsOrderRow, OrderRowValue}
use Rattle.fleet_rows.specs.Rows.{is_order, is_wagon, order_in, wagon_in}
use Rattle.fleet_rows.proofs.Orders.{id-order_in, order_in-there}
use Rattle.fleet_rows.proofs.Wagons.{ascending_distinct, number-wagon_in, wagon_in-there}
use Rattle.operating_db.specs.FirstOffice.{IsFirstOffice}
use Rattle.operating_db.specs.Office.{Office}
use Rattle.operating_db.specs.State.{IsState, state_of}
use Rattle.line_network.specs.NetworkCount.{max_networks}
use Rattle.operating_db.specs.Promises.{KeepsPromises, PromisesAgree, SidesAgree, is_among, is_promise_to, promise_of, promised_of}
use Rattle.operating_db.proofs.Names.{contains_among, same, same_is, same_self}
use Rattle.checkpoint.specs.Parts.{PartsValue}
use Rattle.checkpoint.specs.Taking.{has_wagon_of, is_kept_by, is_promised_by}
use Rattle.checkpoint.specs.inner.IsParts.{IsParts, has_its_wagons}
use Rattle.checkpoint.proofs.Tests.{and_left, and_right}

both_ways : (a b : Bool) → (a ≡ true → b ≡ true) → (b ≡ true → a ≡ true) → a ≡ b
both_ways true b h g = sym (h refl)
both_ways false true h g = g refl
both_ways false false h g = refl

-- what is found passes where all do
found_passes : {X : Type 0} (test p : X → Bool) (xs : List X) (x : X) → find test xs ≡ Some x → list_all p xs ≡ true → p x ≡ true
found_passes test p [] x found all = cc
found_passes test p (y ∷ ys) x found all = elim (cases_Bool (test y)) [
  | inl here ↦
      let same : y ≡ x = cc (rw here at found) in
      ap p (sym same) ∙ and_left (p y) (list_all p ys) all
  | inr other ↦ found_passes test p ys x (rw other at found) (and_right (p y) (list_all p ys) all)
]

among_passes : (p : List ℕ → Bool) (number : List ℕ) (numbers : List (List ℕ)) → is_among number numbers ≡ true → list_all p numbers ≡ true → p number ≡ true
among_passes p number [] among all = cc
among_passes p number (other ∷ numbers) among all = elim (cases_Bool (same number other)) [
  | inl here ↦ ap p (same_is number other here) ∙ and_left (p other) (list_all p numbers) all
  | inr away ↦ among_passes p number numbers (rw away at among) (and_right (p other) (list_all p numbers) all)
]

-- ---- where each side was tested, they agree

by_wagon : (orders : List OrderRowValue) (number id : List ℕ) (p : Option (List ℕ)) → is_promise_to p id ≡ true → has_wagon_of orders number p ≡ true → is_among number (promised_of (order_in orders id)) ≡ true
by_wagon orders number id None promised kept = cc
by_wagon orders number id (Some order) promised kept = ap (λ (q : List ℕ). is_among number (promised_of (order_in orders q))) (same_is id order promised) ∙ kept

from_wagon : (wagons : List WagonRow) (orders : List OrderRowValue) (number id : List ℕ) (o : Option WagonRow) → list_all (is_kept_by orders) wagons ≡ true → wagon_in wagons number ≡ o
    → is_promise_to (promise_of o) id ≡ true → is_among number (promised_of (order_in orders id)) ≡ true
from_wagon wagons orders number id None all found promised = cc
from_wagon wagons orders number id (Some row) all found promised =
    let kept : has_wagon_of orders row.number row.promise ≡ true = found_passes (is_wagon number) (is_kept_by orders) wagons row found all in
    let named : row.number ≡ number = number-wagon_in wagons number row found in
    by_wagon orders number id row.promise promised (ap (λ (n : List ℕ). has_wagon_of orders n row.promise) (sym named) ∙ kept)

from_order : (wagons : List WagonRow) (orders : List OrderRowValue) (number id : List ℕ) (o : Option OrderRowValue) → list_all (has_its_wagons wagons) orders ≡ true → order_in orders id ≡ o
    → is_among number (promised_of o) ≡ true → is_promised_by wagons id number ≡ true
from_order wagons orders number id None all found among = cc
from_order wagons orders number id (Some row) all found among =
    let its : list_all (is_promised_by wagons row.text.id) row.promised ≡ true = found_passes (is_order id) (has_its_wagons wagons) orders row found all in
    let named : row.text.id ≡ id = id-order_in orders id row found in
    ap (λ (q : List ℕ). is_promised_by wagons q number) (sym named) ∙ among_passes (is_promised_by wagons row.text.id) number row.promised among its

pub sides_agree : (office : Office) → list_all (has_its_wagons office.wagons) office.orders ≡ true → list_all (is_kept_by office.orders) office.wagons ≡ true → SidesAgree office
sides_agree office orders wagons number id =
    both_ways (is_promise_to (promise_of (wagon_in office.wagons number)) id) (is_among number (promised_of (order_in office.orders id)))
    (from_wagon office.wagons office.orders number id (wagon_in office.wagons number) wagons refl)
    (from_order office.wagons office.orders number id (order_in office.orders id) orders refl)

keeps_row : (row : OrderRowValue) → IsOrderRow row → KeepsPromises row
keeps_row row h = record { once = ascending_distinct row.promised h.ascending; valid = h }

-- the office of parts whose last line was read
pub first_office : (networks : ℕ) (parts : PartsValue) (network : ℕ) → IsParts networks parts → parts.network ≡ Some network → parts.ended ≡ true
    → IsFirstOffice networks (record { wagons = parts.wagons; orders = parts.orders; network = network })
first_office networks parts network h known ended =
    let within : (1 ≤ network) × (network ≤ networks) = subst (λ (o : Option ℕ). IfSome o (λ k. (1 ≤ k) × (k ≤ networks))) known h.in_force in
    record {
      wagons = record { few = h.few; ascending = h.ascending; few_kg = h.few_kg; possible = h.possible };
      promises = record {
        agree = sides_agree (record { wagons = parts.wagons; orders = parts.orders; network = network }) h.promised (h.known ended);
        names = h.distinct;
        orders = λ k d below. keeps_row (get_or parts.orders k d) (h.each k d below);
      };
      few_open = h.few_open;
      from_one = within.0;
      in_force = within.1;
    }

-- the state of that office, where the parts are those that are inside
pub closed_state : (networks network : ℕ) (parts inside : PartsValue) (wagons : List WagonRow) → IsParts networks parts → inside ≡ parts → inside.network ≡ Some network → inside.ended ≡ true → wagons ≡ inside.wagons → networks ≤ max_networks
    → IsState (state_of wagons inside.orders network networks)
closed_state networks network parts inside wagons h same known ended rows few =
    let valid : IsParts networks inside = subst (IsParts networks) (sym same) h in
    let first : IsFirstOffice networks (record { wagons = inside.wagons; orders = inside.orders; network = network }) = first_office networks inside network valid known ended in
    subst (λ (ws : List WagonRow). IsState (state_of ws inside.orders network networks)) (sym rows) (record { promises = first.promises; from_one = first.from_one; in_force = first.in_force; few = few })

-- ---- where they agree, each side passes its test

contained : (numbers : List (List ℕ)) (k : ℕ) (d : List ℕ) → k < length numbers → Contains numbers (get_or numbers k d)
contained numbers k d below =
    (k, below, get_or_from_slice_get numbers k (get_or numbers k d) (get_or numbers k d) (slice_get-get_or numbers k d below))

row_has_its_wagons : (office : Office) (row : OrderRowValue) → SidesAgree office → order_in office.orders row.text.id ≡ Some row → has_its_wagons office.wagons row ≡ true
row_has_its_wagons office row agree found =
    list_all-from_AllPass (is_promised_by office.wagons row.text.id) row.promised (λ k d below.
    let number = get_or row.promised k d in
    agree number row.text.id ∙ (ap (λ (o : Option OrderRowValue). is_among number (promised_of o)) found ∙ contains_among number row.promised (contained row.promised k d below)))

pub orders_have_their_wagons : (office : Office) → PromisesAgree office → list_all (has_its_wagons office.wagons) office.orders ≡ true
orders_have_their_wagons office h =
    list_all-from_AllPass (has_its_wagons office.wagons) office.orders (λ k d below.
    let row = get_or office.orders k d in
    row_has_its_wagons office row h.agree (order_in-there office.orders k row h.names (slice_get-get_or office.orders k d below)))

kept_by : (office : Office) (row : WagonRow) (p : Option (List ℕ)) → SidesAgree office → wagon_in office.wagons row.number ≡ Some row → row.promise ≡ p → has_wagon_of office.orders row.number p ≡ true
kept_by office row None agree found is = refl
kept_by office row (Some id) agree found is =
    sym (agree row.number id) ∙ (ap (λ (o : Option WagonRow). is_promise_to (promise_of o) id) found ∙ (ap (λ (p : Option (List ℕ)). is_promise_to p id) is ∙ same_self id))

pub wagons_are_kept : (networks : ℕ) (office : Office) → IsFirstOffice networks office → list_all (is_kept_by office.orders) office.wagons ≡ true
wagons_are_kept networks office h =
    list_all-from_AllPass (is_kept_by office.orders) office.wagons (λ k d below.
    let row = get_or office.wagons k d in
    kept_by office row row.promise h.promises.agree (wagon_in-there office.wagons k row h.wagons.ascending (slice_get-get_or office.wagons k d below)) refl)
