-- A watch of an office before an event that goes on with it is a watch of the office after the event.
use Rattle.std.proofs.Common.{◌≡◌, ◌∙◌, ◌≤◌, ◌<◌, ◌⊎◌, ℕ, Bool, true, false, cond, not, ◌&&◌, ◌||◌, List, [], ◌∷◌, ◌++◌, map, Option, Some, None, Result, Ok, Err, refl, ap, ap₂, sym, subst, inl, inr, arith}
use Rattle.std.specs.Prelude.{MatchBool, nat_le, nat_lt, option_map}
use Rattle.std.specs.List.{IsDistinct, list_all}
use Rattle.std.specs.Result.{result_unwrap_or}
use Rattle.std.proofs.lemmas.Bool.{ltb-true}
use Rattle.std.proofs.lemmas.List.Folds.{list_all-append}
use Rattle.std.proofs.Math.Nat.{le-max_left}
use Rattle.commit_book.specs.History.{after}
use Rattle.commit_book.specs.declared.answer.Answer.{Answer}
use Rattle.faults.specs.declared.faults.ApplyFault.TheVariants.{OrderClosed, OrderKnown, SameNetwork, TooManyOpen, UnknownNetwork}
use Rattle.faults.specs.declared.faults.StepFault.{StepFault}
use Rattle.faults.specs.declared.faults.StepFault.TheVariants.{Earlier, WrongPlace}
use Rattle.fleet_rows.specs.Rows.{at_order, at_wagon, filled_by, freed_of, order_in, promised_to, taken_back, wagon_in}
use Rattle.fleet_rows.proofs.Named.{is_same}
use Rattle.fleet_rows.proofs.Wagons.{number-wagon_in, numbers-at_wagon, numbers_of}
use Rattle.move_messages.specs.Order.{Order}
use Rattle.move_messages.specs.declared.event.Event.{Event}
use Rattle.move_messages.specs.declared.event.Event.TheVariants as event
use Rattle.move_messages.specs.declared.message.Message as movement
use Rattle.operating_db.specs.After.{after_call, message_to, moved, order_place, orders_after, unpromised, withdrawn_from}
use Rattle.operating_db.specs.Commits.{Pair, given_to, promise_all, promise_pair}
use Rattle.operating_db.specs.Office.{Office}
use Rattle.operating_db.specs.Promises.{is_promise_to}
use Rattle.operating_db.proofs.Events.{KeepsRow, step_keeps}
use Rattle.operating_db.proofs.Lookups.{wagon_in-at}
use Rattle.operating_db.proofs.Names.{same_self}
use Rattle.wagons_and_orders.specs.Lack.{is_open}
use Rattle.wagons_and_orders.specs.OrderRow.{OrderRowValue, placed_row}
use Rattle.wagons_and_orders.specs.StatusTable.{change_by, fitted, is_at, step_of, transition_of}
use Rattle.wagons_and_orders.specs.declared.change.Change.{Change}
use Rattle.wagons_and_orders.specs.declared.change.Effect.{Effect}
use Rattle.wagons_and_orders.specs.declared.change.Effect.TheVariants as effect
use Rattle.wagons_and_orders.specs.declared.wagon_row.WagonRow.{WagonRow}
use Rattle.journal_notes.specs.EventNotes.{is_accepted}
use Rattle.journal_notes.specs.NotesOf.{KeepsWatch}
use Rattle.journal_notes.specs.OrderNotes.{is_past}
use Rattle.journal_notes.specs.Watches.{IsWatchOf, WatchValue, is_calm}
use Rattle.journal_notes.specs.inner.Advances.{Advances, Hears, Lowers, Stays, last_of}
use Rattle.journal_notes.proofs.WatchRows.{all_at, all_weaker, calm_filled, calm_less, lt_max, or_right, past_at, past_at_kept, past_mapped, past_there}

-- ---- the moment of a message

moment_of_change : (row : WagonRow) (m : movement.Message) (line : _) (b : Bool) (change : Change) → cond b (Err WrongPlace) (Ok (change_by row m line)) ≡ Ok change → change.row.last ≡ m.moment
moment_of_change row m line true change h = cc
moment_of_change row m line false change h = let made : Change = change_by row m line in let same : made ≡ change = cc in sym (ap (λ (c : Change). c.row.last) same)

fitted_moment : (row : WagonRow) (m : movement.Message) (line : _) (change : Change) → fitted row m line ≡ Ok change → change.row.last ≡ m.moment
fitted_moment row m None change h = cc
fitted_moment row m (Some line) change h = moment_of_change row m line _ change h

no_earlier : (row : WagonRow) (m : movement.Message) (line : _) (change : Change) (b : Bool) → nat_lt m.moment row.last ≡ b → cond b (Err Earlier) (fitted row m line) ≡ Ok change → nat_lt change.row.last row.last ≡ false
no_earlier row m line change true is h = cc
no_earlier row m line change false is h = ap (λ (moment : ℕ). nat_lt moment row.last) (fitted_moment row m line change h) ∙ is

step_moment : (row : WagonRow) (m : movement.Message) (place : Option (List ℕ)) (change : Change) → step_of row m place ≡ Ok change → nat_lt change.row.last row.last ≡ false
unfolding step_of
step_moment row m place change h = no_earlier row m (transition_of m.kind row.status (is_at place m.place) m.place m.moment) change (nat_lt m.moment row.last) refl h

-- ---- events that leave the last moments as they are

pub record Calms (before now : Office) (watch : WatchValue) : Type 0 where
  pub past : (order : Order) → is_past now.wagons order ≡ is_past before.wagons order
  pub calm : list_all (is_calm watch.newest watch.calm_until) before.orders ≡ true → list_all (is_calm watch.newest watch.calm_until) now.orders ≡ true

calmed : (before now : Office) (watch : WatchValue) → Calms before now watch → IsWatchOf before watch → IsWatchOf now watch
calmed before now watch calms is = record { newest = λ order. calms.past order ∙ is.newest order; calm = calms.calm is.calm }

given_row : (pair : Pair) (row : WagonRow) → (given_to pair.1 row).last ≡ row.last
given_row pair row = refl

pair_calms : (office : Office) (pair : Pair) (watch : WatchValue) → Calms office (promise_pair office pair) watch
pair_calms office pair watch = record {
  past = past_at_kept pair.0 (given_to pair.1) (given_row pair) office.wagons;
  calm = all_at (is_calm watch.newest watch.calm_until) pair.1 (promised_to pair.0) (λ row is. is) office.orders;
}

after_pairs : (pairs : List Pair) (office : Office) (watch : WatchValue) → IsWatchOf office watch → IsWatchOf (promise_all office pairs) watch
after_pairs [] office watch is = is
after_pairs (pair ∷ pairs) office watch is = after_pairs pairs (promise_pair office pair) watch (calmed office (promise_pair office pair) watch (pair_calms office pair watch) is)

unpromised_last : (id : List ℕ) (b : Bool) (row : WagonRow) → (cond b (record row { promise = None }) row).last ≡ row.last
unpromised_last id true row = refl
unpromised_last id false row = refl

withdrawal_calms : (office : Office) (id : List ℕ) (watch : WatchValue)
    → Calms office (record office { wagons = map (unpromised id) office.wagons; orders = at_order id taken_back office.orders }) watch
withdrawal_calms office id watch = record {
  past = past_mapped (unpromised id) (λ row. unpromised_last id (is_promise_to row.promise id) row) office.wagons;
  calm = all_at (is_calm watch.newest watch.calm_until) id taken_back (λ row is. refl) office.orders;
}

withdrawn_by : (office : Office) (id : List ℕ) (opens : Bool) (watch : WatchValue) → IsWatchOf office watch
    → IsWatchOf (result_unwrap_or (cond opens (Ok (record office { wagons = map (unpromised id) office.wagons; orders = at_order id taken_back office.orders })) (Err OrderClosed)) office) watch
withdrawn_by office id true watch is =
    calmed office (record office { wagons = map (unpromised id) office.wagons; orders = at_order id taken_back office.orders }) watch (withdrawal_calms office id watch) is
withdrawn_by office id false watch is = is

after_withdrawal : (office : Office) (id : List ℕ) (row : Option OrderRowValue) (watch : WatchValue) → IsWatchOf office watch → IsWatchOf (result_unwrap_or (withdrawn_from office id row) office) watch
after_withdrawal office id None watch is = is
after_withdrawal office id (Some row) watch is = withdrawn_by office id (is_open row) watch is

after_revision : (office : Office) (network : ℕ) (b c : Bool) (watch : WatchValue) → IsWatchOf office watch
    → IsWatchOf (result_unwrap_or (cond b (Err UnknownNetwork) (cond c (Err SameNetwork) (Ok (record office { network = network })))) office) watch
after_revision office network true c watch is = is
after_revision office network false true watch is = is
after_revision office network false false watch is = record { newest = is.newest; calm = is.calm }

-- ---- an order

lowered_calm : (office : Office) (order : Order) (old new : WatchValue) → Lowers order.latest old new → IsWatchOf office old → list_all (is_calm new.newest new.calm_until) office.orders ≡ true
lowered_calm office order old new lowers is =
    let more : old.newest ≤ new.newest = omega (arith, lowers.newest) in
    all_weaker (is_calm old.newest old.calm_until) (is_calm new.newest new.calm_until) (calm_less old.newest new.newest old.calm_until new.calm_until more lowers.lower) office.orders is.calm

lowered_newest : (office : Office) (latest : ℕ) (old new : WatchValue) → Lowers latest old new → IsWatchOf office old → (order : Order) → is_past office.wagons order ≡ nat_lt order.latest new.newest
lowered_newest office latest old new lowers is order = is.newest order ∙ ap (nat_lt order.latest) (sym lowers.newest)

and_true : (a b : Bool) → a ≡ true → b ≡ true → (a && (b && true)) ≡ true
and_true a b h is = rw (h, is) refl

placed_calm : (office : Office) (order : Order) (old new : WatchValue) → Lowers order.latest old new → IsWatchOf office old
    → list_all (is_calm new.newest new.calm_until) (office.orders ++ placed_row order ∷ []) ≡ true
placed_calm office order old new lowers is =
    let test = is_calm new.newest new.calm_until in
    list_all-append test office.orders (placed_row order ∷ [])
    ∙ and_true (list_all test office.orders) (test (placed_row order)) (lowered_calm office order old new lowers is)
    (or_right (not (is_open (placed_row order))) (nat_lt order.latest new.newest || nat_le new.calm_until order.latest) lowers.under)

after_placing : (office : Office) (order : Order) (b c : Bool) (old new : WatchValue) → Lowers order.latest old new → IsWatchOf office old
    → IsWatchOf (result_unwrap_or (cond b (Err OrderKnown) (cond c (Err TooManyOpen) (Ok (record office { orders = office.orders ++ placed_row order ∷ [] })))) office) new
after_placing office order true c old new lowers is = record { newest = lowered_newest office order.latest old new lowers is; calm = lowered_calm office order old new lowers is }
after_placing office order false true old new lowers is = record { newest = lowered_newest office order.latest old new lowers is; calm = lowered_calm office order old new lowers is }
after_placing office order false false old new lowers is = record { newest = lowered_newest office order.latest old new lowers is; calm = placed_calm office order old new lowers is }

-- ---- a message

-- it moves the newest moment to the last one of its wagon, and leaves calm what was
pub record Moves (before now : Office) (number : List ℕ) : Type 0 where
  pub past : (order : Order) → is_past now.wagons order ≡ (is_past before.wagons order || nat_lt order.latest (last_of (wagon_in now.wagons number)))
  pub calm : (newest bound : ℕ) → list_all (is_calm newest bound) before.orders ≡ true → list_all (is_calm newest bound) now.orders ≡ true

le_or_lt : (a b : ℕ) → (a ≤ b) ⊎ (b < a)
le_or_lt a b = grind arith

moved_calm : (before now : Office) (number : List ℕ) (old new : WatchValue) → Moves before now number → Hears now number old new → IsWatchOf before old → list_all (is_calm new.newest new.calm_until) now.orders ≡ true
moved_calm before now number old new moves hears is =
    elim (le_or_lt new.newest old.calm_until) [
      | inl within ↦
          let last = last_of (wagon_in now.wagons number) in
          let more : old.newest ≤ new.newest = omega (arith, hears.newest, le-max_left old.newest last) in
          let less : new.calm_until ≤ old.calm_until = omega (arith, hears.below within) in
          all_weaker (is_calm old.newest old.calm_until) (is_calm new.newest new.calm_until) (calm_less old.newest new.newest old.calm_until new.calm_until more less) now.orders
          (moves.calm old.newest old.calm_until is.calm)
      | inr past ↦ hears.above past
    ]

pub moved_on : (before now : Office) (number : List ℕ) (old new : WatchValue) → Moves before now number → Hears now number old new → IsWatchOf before old → IsWatchOf now new
moved_on before now number old new moves hears is =
    let last = last_of (wagon_in now.wagons number) in
    record {
      newest = λ order.
          moves.past order ∙ ap (λ (b : Bool). b || nat_lt order.latest last) (is.newest order) ∙ sym (lt_max order.latest old.newest last) ∙ ap (nat_lt order.latest) (sym hears.newest);
      calm = moved_calm before now number old new moves hears is;
    }

-- an office that stays
absorbed : (a b : Bool) → (b ≡ true → a ≡ true) → a ≡ (a || b)
absorbed true b h = refl
absorbed false true h = h refl
absorbed false false h = refl

last_past : (office : Office) (number : List ℕ) (order : Order) (row : Option WagonRow) → wagon_in office.wagons number ≡ row → nat_lt order.latest (last_of row) ≡ true → is_past office.wagons order ≡ true
last_past office number order None found less = absurd (omega (arith, ltb-true order.latest 0 less))
last_past office number order (Some row) found less = past_there number row office.wagons order found less

stays_put : (office : Office) (number : List ℕ) → Moves office office number
stays_put office number = record {
  past = λ order. absorbed (is_past office.wagons order) (nat_lt order.latest (last_of (wagon_in office.wagons number))) (last_past office number order (wagon_in office.wagons number) refl);
  calm = λ newest bound is. is;
}

-- a wagon that has another row
calm_orders : (e : Effect) (promise : Option (List ℕ)) (number : List ℕ) (orders : List OrderRowValue) (newest bound : ℕ) → list_all (is_calm newest bound) orders ≡ true
    → list_all (is_calm newest bound) (orders_after e promise number orders) ≡ true
calm_orders effect.None promise number orders newest bound is = is
calm_orders effect.Fills None number orders newest bound is = is
calm_orders effect.Fills (Some id) number orders newest bound is = all_at (is_calm newest bound) id (filled_by number) (calm_filled newest bound number) orders is
calm_orders effect.Ends None number orders newest bound is = is
calm_orders effect.Ends (Some id) number orders newest bound is = all_at (is_calm newest bound) id (freed_of number) (λ row here. here) orders is

abbrev after_change : Office → List ℕ → Option (List ℕ) → Change → Office
after_change office number promise change = record office { wagons = at_wagon number (λ _. change.row) office.wagons; orders = orders_after change.effect promise number office.orders }

new_row : (office : Office) (number : List ℕ) (row : WagonRow) (change : Change) → wagon_in office.wagons number ≡ Some row → KeepsRow row change
    → wagon_in (at_wagon number (λ _. change.row) office.wagons) number ≡ Some change.row
new_row office number row change found keeps =
    wagon_in-at number (λ _. change.row) (λ (other : WagonRow) is. keeps.number ∙ number-wagon_in office.wagons number row found ∙ sym is) office.wagons number
    ∙ ap (λ (b : Bool). cond b (option_map (λ (_ : WagonRow). change.row) (wagon_in office.wagons number)) (wagon_in office.wagons number)) (same_self number)
    ∙ ap (option_map (λ (_ : WagonRow). change.row)) found

row_moves : (office : Office) (number : List ℕ) (row : WagonRow) (change : Change) → IsDistinct is_same (numbers_of office.wagons) → wagon_in office.wagons number ≡ Some row → KeepsRow row change
    → nat_lt change.row.last row.last ≡ false → Moves office (after_change office number row.promise change) number
row_moves office number row change distinct found keeps later = record {
  past = λ order.
      past_at number row change.row office.wagons order distinct found later
      ∙ ap (λ (r : Option WagonRow). is_past office.wagons order || nat_lt order.latest (last_of r)) (sym (new_row office number row change found keeps));
  calm = calm_orders change.effect row.promise number office.orders;
}

by_step : (office : Office) (number : List ℕ) (row : WagonRow) (r : Result Change StepFault) → wagon_in office.wagons number ≡ Some row → ((change : Change) → r ≡ Ok change → KeepsRow row change × (nat_lt change.row.last row.last ≡ false))
    → let now = result_unwrap_or (moved office number row.promise r) office in IsDistinct is_same (numbers_of now.wagons) → Moves office now number
by_step office number row (Err fault) found keeps distinct = stays_put office number
by_step office number row (Ok change) found keeps distinct =
    let both = keeps change refl in
    row_moves office number row change
    (subst (IsDistinct is_same) (numbers-at_wagon number (λ _. change.row) (λ (other : WagonRow) is. both.0.number ∙ number-wagon_in office.wagons number row found) office.wagons) distinct)
    found both.0 both.1

by_row : (office : Office) (message : movement.Message) (row : Option WagonRow) → wagon_in office.wagons message.wagon ≡ row
    → let now = result_unwrap_or (message_to office message row) office in IsDistinct is_same (numbers_of now.wagons) → Moves office now message.wagon
by_row office message None found distinct = stays_put office message.wagon
by_row office message (Some row) found distinct =
    by_step office message.wagon row (step_of row message (order_place office.orders row.promise)) found
    (λ change is. (step_keeps row message (order_place office.orders row.promise) change is, step_moment row message (order_place office.orders row.promise) change is)) distinct

-- ---- all events

stayed : (office : Office) (old new : WatchValue) → Stays old new → IsWatchOf office old → IsWatchOf office new
stayed office old new stays is = record {
  newest = λ order. is.newest order ∙ ap (nat_lt order.latest) (sym stays.newest);
  calm = ap₂ (λ (newest bound : ℕ). list_all (is_calm newest bound) office.orders) stays.newest stays.calm_until ∙ is.calm;
}

-- an event that is accepted, or not
by_accepted : (accepted : Bool) (office happened : Office) (P Q : Type 0) (old new : WatchValue) (now : Office) → IsWatchOf office old → now ≡ cond accepted happened office
    → (P → IsWatchOf happened new) → (Q → IsWatchOf office new) → MatchBool accepted P Q → IsWatchOf now new
by_accepted true office happened P Q old new now is led happens stays h = subst (λ (o : Office). IsWatchOf o new) (sym led) (happens h)
by_accepted false office happened P Q old new now is led happens stays h = subst (λ (o : Office). IsWatchOf o new) (sym led) (stays h)

-- an event after which the watch stays
by_staying : (accepted : Bool) (office happened : Office) (old new : WatchValue) (now : Office) → now ≡ cond accepted happened office → IsWatchOf happened old → IsWatchOf office old → Stays old new → IsWatchOf now new
by_staying true office happened old new now led happens is stays = stayed now old new stays (subst (λ (o : Office). IsWatchOf o old) (sym led) happens)
by_staying false office happened old new now led happens is stays = stayed now old new stays (subst (λ (o : Office). IsWatchOf o old) (sym led) is)

pub message_moves : (networks : ℕ) (office : Office) (message : movement.Message) (now : Office) → IsDistinct is_same (numbers_of now.wagons) → now ≡ after networks office (event.Message message) → Moves office now message.wagon
unfolding after_call
message_moves networks office message now distinct led =
    subst (λ (o : Office). IsDistinct is_same (numbers_of o.wagons) → Moves office o message.wagon) (sym led) (by_row office message (wagon_in office.wagons message.wagon) refl) distinct

by_message : (accepted : Bool) (networks : ℕ) (office : Office) (message : movement.Message) (old new : WatchValue) (now : Office) → IsDistinct is_same (numbers_of now.wagons) → IsWatchOf office old
    → now ≡ cond accepted (after networks office (event.Message message)) office → MatchBool accepted (Hears now message.wagon old new) (Stays old new) → IsWatchOf now new
by_message true networks office message old new now distinct is led hears = moved_on office now message.wagon old new (message_moves networks office message now distinct led) hears is
by_message false networks office message old new now distinct is led stays = subst (λ (o : Office). IsWatchOf o new) (sym led) (stayed office old new stays is)

pub watched : (happens : Event) (answer : Answer) (now : Office) (old new : WatchValue) → IsDistinct is_same (numbers_of now.wagons) → Advances happens answer now old new → KeepsWatch happens answer now old new
unfolding after_call
watched (event.Message message) answer now old new distinct advances networks office is led = by_message (is_accepted answer) networks office message old new now distinct is led advances
watched (event.Place order) answer now old new distinct advances networks office is led =
    by_accepted (is_accepted answer) office (after networks office (event.Place order)) (Lowers order.latest old new) (Stays old new) old new now is led
    (λ lowers. after_placing office order _ _ old new lowers is) (λ stays. stayed office old new stays is) advances
watched (event.Withdraw id) answer now old new distinct stays networks office is led =
    by_staying (is_accepted answer) office (after networks office (event.Withdraw id)) old new now led (after_withdrawal office id (order_in office.orders id) old is) is stays
watched (event.Commit commit) answer now old new distinct stays networks office is led =
    by_staying (is_accepted answer) office (after networks office (event.Commit commit)) old new now led (after_pairs commit.pairs office old is) is stays
watched (event.Revise network) answer now old new distinct stays networks office is led =
    by_staying (is_accepted answer) office (after networks office (event.Revise network)) old new now led (after_revision office network _ _ old is) is stays
