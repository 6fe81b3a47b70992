-- What an event does to two offices that differ in closed orders alone.
use Rattle.std.proofs.Common.{◌≡◌, ◌∙◌, ℕ, ◌+◌, Bool, true, false, cond, ◌||◌, List, [], ◌∷◌, ◌++◌, map, refl, ap, sym, subst}
use Rattle.std.specs.Prelude.{◌==◌, nat_lt, Option, Some, None, is_some, option_map, Result, Ok, Err}
use Rattle.std.specs.List.{filter}
use Rattle.std.proofs.lemmas.List.Elements.{filter-append}
use Rattle.move_messages.specs.Order.{Order}
use Rattle.move_messages.specs.declared.message.Message as message
use Rattle.move_messages.specs.declared.event.Event.{Event}
use Rattle.move_messages.specs.declared.event.Event.TheVariants.{Message, Place, Withdraw, Commit, Revise}
use Rattle.wagons_and_orders.specs.declared.change.Change.{Change}
use Rattle.wagons_and_orders.specs.declared.change.Effect.{Effect}
use Rattle.wagons_and_orders.specs.declared.change.Effect.TheVariants as effect
use Rattle.wagons_and_orders.specs.declared.wagon_row.WagonRow.{WagonRow}
use Rattle.wagons_and_orders.specs.Lack.{is_open}
use Rattle.wagons_and_orders.specs.OrderRow.{OrderRowValue, placed_row}
use Rattle.wagons_and_orders.specs.StatusTable.{step_of}
use Rattle.faults.specs.declared.faults.ApplyFault.{ApplyFault}
use Rattle.faults.specs.declared.faults.ApplyFault.TheVariants.{OrderClosed, OrderKnown, SameNetwork, TooManyOpen, UnknownNetwork}
use Rattle.faults.specs.declared.faults.StepFault.{StepFault}
use Rattle.fleet_rows.specs.Rows.{at_order, at_wagon, filled_by, freed_of, max_open_wagons, open_wagons, order_in, promised_to, taken_back, wagon_in}
use Rattle.operating_db.specs.After.{after_call, after_order, message_to, moved, order_place, orders_after, unpromised, withdrawn_from}
use Rattle.operating_db.specs.Commits.{Pair, given_to, promise_all, promise_pair}
use Rattle.operating_db.specs.CompactLaws.{AlikeAnswerTheSame, AnswersAgree, AreAlike, IsNoneClosed, NamesNoneClosed}
use Rattle.operating_db.specs.Office.{Office}
use Rattle.operating_db.specs.Promises.{PromisesAgree}
use Rattle.operating_db.specs.Steps.{IsPromised}
use Rattle.operating_db.proofs.Changes.{order_known}
use Rattle.operating_db.proofs.CompactOffices.{alike_network, alike_of, alike_order, alike_orders, alike_wagons, alike_wanted, can_on}
use Rattle.operating_db.proofs.CompactRows.{KeepsClosed, closed_filled, found_keeps, open_at, open_where_promised}
use Rattle.operating_db.proofs.Events.{not_there}

-- ---- a relation that lasts

-- a relation of alike offices that lasts through each change of both
pub record Lasts (R : Office → Office → Type 0) : Type 0 where
  pub alike : (one other : Office) → R one other → AreAlike one other
  pub moves : (one other : Office) (f : List WagonRow → List WagonRow) → R one other → R (record one { wagons = f one.wagons }) (record other { wagons = f other.wagons })
  pub changes : (one other : Office) (id : List ℕ) (f : OrderRowValue → OrderRowValue) → ((row : OrderRowValue) → (f row).text.id ≡ row.text.id) → KeepsClosed f → R one other
      → R (record one { orders = at_order id f one.orders }) (record other { orders = at_order id f other.orders })
  pub places : (one other : Office) (text : Order) → order_in one.orders text.id ≡ None → order_in other.orders text.id ≡ None → R one other
      → R (record one { orders = one.orders ++ placed_row text ∷ [] }) (record other { orders = other.orders ++ placed_row text ∷ [] })
  pub revises : (one other : Office) (network : ℕ) → R one other → R (record one { network = network }) (record other { network = network })

pub alike_lasts : Lasts AreAlike
alike_lasts = record {
  alike = λ one other h. h;
  moves = λ one other f h. alike_of (record one { wagons = f one.wagons }) (record other { wagons = f other.wagons }) (ap f (alike_wagons one other h)) (alike_orders one other h) (alike_network one other h);
  changes = λ one other id f names keeps h.
      alike_of (record one { orders = at_order id f one.orders }) (record other { orders = at_order id f other.orders }) (alike_wagons one other h)
      (sym (open_at id f keeps one.orders) ∙ (ap (λ (rows : List OrderRowValue). filter is_open (at_order id f rows)) (alike_orders one other h) ∙ open_at id f keeps other.orders)) (alike_network one other h);
  places = λ one other text new new' h.
      alike_of (record one { orders = one.orders ++ placed_row text ∷ [] }) (record other { orders = other.orders ++ placed_row text ∷ [] }) (alike_wagons one other h)
      (filter-append is_open one.orders (placed_row text ∷ [])
      ∙ (ap (λ (rows : List OrderRowValue). rows ++ filter is_open (placed_row text ∷ [])) (alike_orders one other h) ∙ sym (filter-append is_open other.orders (placed_row text ∷ [])))) (alike_network one other h);
  revises = λ one other network h. alike_of (record one { network = network }) (record other { network = network }) (alike_wagons one other h) (alike_orders one other h) refl;
}

-- one fault, or two offices of which the relation holds
abbrev pub GiveBy : (Office → Office → Type 0) → Result Office ApplyFault → Result Office ApplyFault → Type 0
GiveBy R (Ok one) (Ok other) = R one other
GiveBy R (Err one) (Err other) = one ≡ other
GiveBy R one other = ⊥

-- ---- the place of the order of a promise

promise_names : (office : Office) (number : List ℕ) (row : WagonRow) (id : List ℕ) → wagon_in office.wagons number ≡ Some row → row.promise ≡ Some id → PromisesAgree office → IsNoneClosed office id
promise_names office number row id found had agree =
    open_where_promised number (order_in office.orders id) (found_keeps office.orders id agree.orders) (order_known office number row id (sym found) had agree.agree)

place_same : (one other : Office) (number : List ℕ) (row : WagonRow) (promise : Option (List ℕ)) → wagon_in one.wagons number ≡ Some row → wagon_in other.wagons number ≡ Some row → row.promise ≡ promise
    → PromisesAgree one → PromisesAgree other → AreAlike one other → order_place one.orders promise ≡ order_place other.orders promise
place_same one other number row None found there had h g alike = refl
place_same one other number row (Some id) found there had h g alike =
    ap (option_map (λ (order : OrderRowValue). order.text.place))
    (alike_order one other h g alike id (promise_names one number row id found had h) (promise_names other number row id there had g))

-- ---- orders and revisions, by the tests that they meet

abbrev order_by : Office → Order → (known full : Bool) → Result Office ApplyFault
order_by office text known full = cond known (Err OrderKnown) (cond full (Err TooManyOpen) (Ok (record office { orders = office.orders ++ placed_row text ∷ [] })))

abbrev revised_by : Office → (network : ℕ) → (unknown known : Bool) → Result Office ApplyFault
revised_by office network unknown known = cond unknown (Err UnknownNetwork) (cond known (Err SameNetwork) (Ok (record office { network = network })))

-- the order that an event names is the same in both
abbrev pub FindTheSame : (one other : Office) → Event → Type 0
FindTheSame one other (Place text) = order_in one.orders text.id ≡ order_in other.orders text.id
FindTheSame one other (Withdraw id) = order_in one.orders id ≡ order_in other.orders id
FindTheSame one other event = Unit {0}

module _ (R : Office → Office → Type 0) (lasts : Lasts R) where
  -- ---- messages

  orders_last : (e : Effect) (promise : Option (List ℕ)) (number : List ℕ) (one other : Office) → R one other
      → R (record one { orders = orders_after e promise number one.orders }) (record other { orders = orders_after e promise number other.orders })
  orders_last effect.None promise number one other h = h
  orders_last effect.Fills None number one other h = h
  orders_last effect.Ends None number one other h = h
  orders_last effect.Fills (Some id) number one other h = lasts.changes one other id (filled_by number) (λ row. refl) (closed_filled number) h
  orders_last effect.Ends (Some id) number one other h = lasts.changes one other id (freed_of number) (λ row. refl) (λ row closed. closed) h

  moved_same : (one other : Office) (number : List ℕ) (promise : Option (List ℕ)) (r : Result Change StepFault) → R one other → GiveBy R (moved one number promise r) (moved other number promise r)
  moved_same one other number promise (Err fault) h = refl
  moved_same one other number promise (Ok change) h =
      orders_last change.effect promise number (record one { wagons = at_wagon number (λ _. change.row) one.wagons }) (record other { wagons = at_wagon number (λ _. change.row) other.wagons })
      (lasts.moves one other (at_wagon number (λ _. change.row)) h)

  message_same : (one other : Office) (m : message.Message) (o : Option WagonRow) → wagon_in one.wagons m.wagon ≡ o → wagon_in other.wagons m.wagon ≡ o → PromisesAgree one → PromisesAgree other → R one other
      → GiveBy R (message_to one m o) (message_to other m o)
  message_same one other m None found there h g r = refl
  message_same one other m (Some row) found there h g r =
      let first = order_place one.orders row.promise in
      let is : first ≡ order_place other.orders row.promise = place_same one other m.wagon row row.promise found there refl h g (lasts.alike one other r) in
      subst (λ (place : Option (List ℕ)). GiveBy R (moved one m.wagon row.promise (step_of row m first)) (moved other m.wagon row.promise (step_of row m place))) is
      (moved_same one other m.wagon row.promise (step_of row m first) r)

  -- ---- orders

  order_met : (one other : Office) (text : Order) (known full : Bool) → (known ≡ false → R (record one { orders = one.orders ++ placed_row text ∷ [] }) (record other { orders = other.orders ++ placed_row text ∷ [] }))
      → GiveBy R (order_by one text known full) (order_by other text known full)
  order_met one other text true full new = refl
  order_met one other text false true new = refl
  order_met one other text false false new = new refl

  order_same : (one other : Office) (text : Order) → order_in one.orders text.id ≡ order_in other.orders text.id → R one other → GiveBy R (after_order one text) (after_order other text)
  order_same one other text found r =
      let known = is_some (order_in one.orders text.id) in
      let full = nat_lt max_open_wagons (open_wagons one.orders + text.wagons) in
      let full' = nat_lt max_open_wagons (open_wagons other.orders + text.wagons) in
      subst (λ (k : Bool). GiveBy R (order_by one text known full) (order_by other text k full')) (ap is_some found)
      (subst (λ (f : Bool). GiveBy R (order_by one text known full) (order_by other text known f))
      (ap (λ (n : ℕ). nat_lt max_open_wagons (n + text.wagons)) (alike_wanted one other (lasts.alike one other r)))
      (order_met one other text known full (λ new.
      let none : order_in one.orders text.id ≡ None = not_there (order_in one.orders text.id) new in
      lasts.places one other text none (sym found ∙ none) r)))

  withdrawn_met : (one other : Office) (id : List ℕ) (opens : Bool) → R one other
      → GiveBy R (cond opens (Ok (record one { wagons = map (unpromised id) one.wagons; orders = at_order id taken_back one.orders })) (Err OrderClosed))
      (cond opens (Ok (record other { wagons = map (unpromised id) other.wagons; orders = at_order id taken_back other.orders })) (Err OrderClosed))
  withdrawn_met one other id true r =
      lasts.changes (record one { wagons = map (unpromised id) one.wagons }) (record other { wagons = map (unpromised id) other.wagons }) id taken_back (λ row. refl) (λ row closed. refl)
      (lasts.moves one other (map (unpromised id)) r)
  withdrawn_met one other id false r = refl

  withdrawn_same : (one other : Office) (id : List ℕ) (o : Option OrderRowValue) → R one other → GiveBy R (withdrawn_from one id o) (withdrawn_from other id o)
  withdrawn_same one other id None r = refl
  withdrawn_same one other id (Some row) r = withdrawn_met one other id (is_open row) r

  -- ---- commits and revisions

  pairs_last : (pairs : List Pair) (one other : Office) → R one other → R (promise_all one pairs) (promise_all other pairs)
  pairs_last [] one other r = r
  pairs_last (pair ∷ pairs) one other r =
      pairs_last pairs (promise_pair one pair) (promise_pair other pair)
      (lasts.changes (record one { wagons = at_wagon pair.0 (given_to pair.1) one.wagons }) (record other { wagons = at_wagon pair.0 (given_to pair.1) other.wagons }) pair.1 (promised_to pair.0) (λ row. refl) (λ row closed. closed)
      (lasts.moves one other (at_wagon pair.0 (given_to pair.1)) r))

  revised_met : (one other : Office) (network : ℕ) (unknown known : Bool) → R one other → GiveBy R (revised_by one network unknown known) (revised_by other network unknown known)
  revised_met one other network true known r = refl
  revised_met one other network false true r = refl
  revised_met one other network false false r = lasts.revises one other network r

  -- ---- each event

  pub event_same : (networks : ℕ) (one other : Office) (event : Event) → PromisesAgree one → PromisesAgree other → FindTheSame one other event → R one other
      → GiveBy R (after_call networks one event) (after_call networks other event)
  unfolding after_call
  event_same networks one other (Message m) h g found r =
      let row = wagon_in one.wagons m.wagon in
      let is : row ≡ wagon_in other.wagons m.wagon = ap (λ (rows : List WagonRow). wagon_in rows m.wagon) (alike_wagons one other (lasts.alike one other r)) in
      subst (λ (o : Option WagonRow). GiveBy R (message_to one m row) (message_to other m o)) is (message_same one other m row refl (sym is) h g r)
  event_same networks one other (Place text) h g found r = order_same one other text found r
  event_same networks one other (Withdraw id) h g found r =
      let row = order_in one.orders id in
      subst (λ (o : Option OrderRowValue). GiveBy R (withdrawn_from one id row) (withdrawn_from other id o)) found (withdrawn_same one other id row r)
  event_same networks one other (Commit commit) h g found r = pairs_last commit.pairs one other r
  event_same networks one other (Revise network) h g found r =
      let unknown = network == 0 || nat_lt networks network in
      let known = network == one.network in
      subst (λ (k : Bool). GiveBy R (revised_by one network unknown known) (revised_by other network unknown k)) (ap (λ (n : ℕ). network == n) (alike_network one other (lasts.alike one other r)))
      (revised_met one other network unknown known r)

-- a commit that can be promised here can be promised there
pub promised_on : (one other : Office) (event : Event) → PromisesAgree one → PromisesAgree other → AreAlike one other → IsPromised one event → IsPromised other event
promised_on one other (Message m) h g alike can = tt
promised_on one other (Place text) h g alike can = tt
promised_on one other (Withdraw id) h g alike can = tt
promised_on one other (Commit commit) h g alike can = can_on one other commit.pairs h g alike can
promised_on one other (Revise network) h g alike can = tt

find_same : (one other : Office) (event : Event) → PromisesAgree one → PromisesAgree other → AreAlike one other → NamesNoneClosed one event → NamesNoneClosed other event → FindTheSame one other event
find_same one other (Message m) h g alike here there = tt
find_same one other (Place text) h g alike here there = alike_order one other h g alike text.id here there
find_same one other (Withdraw id) h g alike here there = alike_order one other h g alike id here there
find_same one other (Commit commit) h g alike here there = tt
find_same one other (Revise network) h g alike here there = tt

answers_agree : (first second : Result Office ApplyFault) → GiveBy AreAlike first second → AnswersAgree first second
answers_agree (Ok one) (Ok other) h = h
answers_agree (Err one) (Err other) h = h
answers_agree (Ok one) (Err other) h = h
answers_agree (Err one) (Ok other) h = h

pub alike_answer : AlikeAnswerTheSame
alike_answer networks one other event h g alike here there = record {
  promised = (promised_on one other event h g alike, promised_on other one event g h (sym alike));
  answers = answers_agree (after_call networks one event) (after_call networks other event) (event_same AreAlike alike_lasts networks one other event h g (find_same one other event h g alike here there) alike);
}
