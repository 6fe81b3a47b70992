-- The rows that the wagons of an office can have.
use Rattle.std.proofs.Common.{◌≡◌, ◌≤◌, ◌&&◌, ◌||◌, ℕ, Bool, true, false, cond, not, nat_lt, is_none, is_some, List, Option, Some, None, IfSome, IsSome, Result, Ok, Err, refl, subst, arith}
use Rattle.std.proofs.lemmas.Bool.Decides.{nat_tests}
use Rattle.move_messages.specs.declared.message.Message.{Message}
use Rattle.move_messages.specs.declared.message.MessageKind.{MessageKind}
use Rattle.move_messages.specs.declared.message.MessageKind.TheVariants.{Release, Departure, YardArrival, YardDeparture, Exception, Arrival, Delivery}
use Rattle.faults.specs.declared.faults.StepFault.{StepFault}
use Rattle.faults.specs.declared.faults.StepFault.TheVariants.{Earlier, WrongPlace}
use Rattle.wagons_and_orders.specs.declared.change.Change.{Change}
use Rattle.wagons_and_orders.specs.declared.load.Load.TheVariants.{Loaded, Unladen}
use Rattle.wagons_and_orders.specs.declared.status.Status.{Status}
use Rattle.wagons_and_orders.specs.declared.status.Status.TheVariants.{Empty, Loading, Ready, Journey, Yard, Arrived, Unloading}
use Rattle.wagons_and_orders.specs.declared.status_table.Transition.{Transition}
use Rattle.wagons_and_orders.specs.declared.wagon_row.WagonRow.{WagonRow}
use Rattle.wagons_and_orders.specs.Free.{free_by, free_of}
use Rattle.wagons_and_orders.specs.PossibleRows.{IsPossibleRow, IsReadyBy, RowsStayPossible, is_possible, is_ready_by, is_unladen}
use Rattle.wagons_and_orders.specs.StatusTable.{change_by, fitted, held_after, is_at, promise_after, step_of, transition_of}

-- ---- the test

both_true : (a b : Bool) → a && b ≡ true → (a ≡ true) × (b ≡ true)
both_true true b h = (refl, h)
both_true false b h = cc h

both : (a b : Bool) → a ≡ true → b ≡ true → a && b ≡ true
both true b h g = g
both false b h g = cc h

ready_is : (moment : ℕ) (status : Status) → is_ready_by moment status ≡ true → IsReadyBy moment status
ready_is moment (Empty place ready) h = grind (arith, nat_tests)
ready_is moment (Loading place) h = tt
ready_is moment (Ready place) h = tt
ready_is moment (Journey load place) h = tt
ready_is moment (Yard load place) h = tt
ready_is moment (Arrived load place) h = tt
ready_is moment (Unloading place) h = tt

is_ready : (moment : ℕ) (status : Status) → IsReadyBy moment status → is_ready_by moment status ≡ true
is_ready moment (Empty place ready) h = grind (arith, nat_tests)
is_ready moment (Loading place) h = refl
is_ready moment (Ready place) h = refl
is_ready moment (Journey load place) h = refl
is_ready moment (Yard load place) h = refl
is_ready moment (Arrived load place) h = refl
is_ready moment (Unloading place) h = refl

held_has_none : (held : Bool) (promise : Option (List ℕ)) (unladen : Bool) → is_none promise || (not held && unladen) ≡ true → held ≡ true → promise ≡ None
held_has_none held None unladen h is = refl
held_has_none true (Some id) unladen h is = cc h
held_has_none false (Some id) unladen h is = cc is

promised_is_unladen : (held : Bool) (promise : Option (List ℕ)) (unladen : Bool) → is_none promise || (not held && unladen) ≡ true → IsSome promise → unladen ≡ true
promised_is_unladen held None unladen h some = cc some
promised_is_unladen true (Some id) unladen h some = cc h
promised_is_unladen false (Some id) unladen h some = h

may_stand : (held : Bool) (promise : Option (List ℕ)) (unladen : Bool) → (held ≡ true → promise ≡ None) → (IsSome promise → unladen ≡ true) → is_none promise || (not held && unladen) ≡ true
may_stand held None unladen h g = refl
may_stand true (Some id) unladen h g = cc (h refl)
may_stand false (Some id) unladen h g = g refl

pub possible_is : (row : WagonRow) → is_possible row ≡ true → IsPossibleRow row
possible_is row h =
    let (ready, stands) = both_true (is_ready_by row.last row.status) (is_none row.promise || (not row.held && is_unladen row.status)) h in
    record {
      held = held_has_none row.held row.promise (is_unladen row.status) stands;
      ready = ready_is row.last row.status ready;
      promised = promised_is_unladen row.held row.promise (is_unladen row.status) stands;
    }

pub is_possible_by : (row : WagonRow) → IsPossibleRow row → is_possible row ≡ true
is_possible_by row h = both _ _ (is_ready row.last row.status h.ready) (may_stand row.held row.promise (is_unladen row.status) h.held h.promised)

-- ---- promises

-- a wagon whose promise ends
pub possible_unpromised : (row : WagonRow) → IsPossibleRow row → IsPossibleRow (record row { promise = None })
possible_unpromised row h = record { held = λ _. refl; ready = h.ready; promised = λ some. cc some }

free_stands : (row : WagonRow) (status : Status) (held : Bool) (promise : Option (List ℕ)) → is_some (free_by row status held promise) ≡ true → (held ≡ false) × (is_unladen status ≡ true)
free_stands row (Empty place ready) false None h = (refl, refl)
free_stands row status held promise h = cc h

-- a free wagon that is promised
pub possible_promised : (row : WagonRow) (id : List ℕ) → is_some (free_of row) ≡ true → IsPossibleRow row → IsPossibleRow (record row { promise = Some id })
unfolding free_of
possible_promised row id free h =
    let (not_held, unladen) = free_stands row row.status row.held row.promise free in
    record { held = λ is. cc (is, not_held); ready = h.ready; promised = λ _. unladen }

-- ---- messages

ready_later : (last moment : ℕ) (status : Status) → last ≤ moment → IsReadyBy last status → IsReadyBy moment status
ready_later last moment (Empty place ready) later h = omega arith
ready_later last moment (Loading place) later h = tt
ready_later last moment (Ready place) later h = tt
ready_later last moment (Journey load place) later h = tt
ready_later last moment (Yard load place) later h = tt
ready_later last moment (Arrived load place) later h = tt
ready_later last moment (Unloading place) later h = tt

-- what a transition leaves
record Leaves (kind : MessageKind) (was_held : Bool) (promise : Option (List ℕ)) (moment : ℕ) (transition : Transition) : Type 0 where
  held : held_after kind was_held ≡ true → promise_after transition.effect promise ≡ None
  ready : IsReadyBy moment transition.next
  promised : IsSome (promise_after transition.effect promise) → is_unladen transition.next ≡ true

module _ (held : Bool) (promise : Option (List ℕ)) (last moment : ℕ) (later : last ≤ moment) (h : held ≡ true → promise ≡ None) where
  by_table : (kind : MessageKind) (status : Status) (at_order : Bool) (place : List ℕ) → IsReadyBy last status → (IsSome promise → is_unladen status ≡ true)
      → IfSome (transition_of kind status at_order place moment) (Leaves kind held promise moment)
  by_table Release (Loading at) at_order place ready promised = record { held = h; ready = tt; promised = promised }
  by_table Release (Unloading at) at_order place ready promised = record { held = h; ready = omega arith; promised = λ _. refl }
  by_table Departure (Ready at) at_order place ready promised = record { held = h; ready = tt; promised = promised }
  by_table Departure (Empty at since) at_order place ready promised = record { held = h; ready = tt; promised = λ _. refl }
  by_table YardArrival (Journey Loaded at) at_order place ready promised = record { held = h; ready = tt; promised = promised }
  by_table YardArrival (Journey Unladen at) at_order place ready promised = record { held = h; ready = tt; promised = λ _. refl }
  by_table YardDeparture (Yard Loaded at) at_order place ready promised = record { held = h; ready = tt; promised = promised }
  by_table YardDeparture (Yard Unladen at) at_order place ready promised = record { held = h; ready = tt; promised = λ _. refl }
  by_table Arrival (Journey Loaded at) at_order place ready promised = record { held = h; ready = tt; promised = promised }
  by_table Arrival (Journey Unladen at) at_order place ready promised = record { held = h; ready = tt; promised = λ _. refl }
  by_table Delivery (Arrived Loaded at) at_order place ready promised = record { held = h; ready = tt; promised = promised }
  by_table Delivery (Arrived Unladen at) true place ready promised = record { held = λ _. refl; ready = tt; promised = λ some. cc some }
  by_table Delivery (Arrived Unladen at) false place ready promised = record { held = λ _. refl; ready = omega arith; promised = λ _. refl }
  by_table (Exception true) status at_order place ready promised = record { held = λ _. refl; ready = ready_later last moment status later ready; promised = λ some. cc some }
  by_table (Exception false) (Empty at since) at_order place ready promised = record { held = λ is. cc is; ready = omega arith; promised = λ _. refl }
  by_table (Exception false) (Loading at) at_order place ready promised = record { held = λ is. cc is; ready = tt; promised = promised }
  by_table (Exception false) (Ready at) at_order place ready promised = record { held = λ is. cc is; ready = tt; promised = promised }
  by_table (Exception false) (Journey load at) at_order place ready promised = record { held = λ is. cc is; ready = tt; promised = promised }
  by_table (Exception false) (Yard load at) at_order place ready promised = record { held = λ is. cc is; ready = tt; promised = promised }
  by_table (Exception false) (Arrived load at) at_order place ready promised = record { held = λ is. cc is; ready = tt; promised = promised }
  by_table (Exception false) (Unloading at) at_order place ready promised = record { held = λ is. cc is; ready = tt; promised = promised }
  by_table kind status at_order place ready promised = tt

left_possible : (row : WagonRow) (message : Message) (transition : Transition) → Leaves message.kind row.held row.promise message.moment transition → IsPossibleRow (change_by row message transition).row
left_possible row message transition h = record { held = h.held; ready = h.ready; promised = h.promised }

placed_possible : (change other : Change) (b : Bool) → cond b (Err WrongPlace) (Ok other) ≡ Ok change → IsPossibleRow other.row → IsPossibleRow change.row
placed_possible change other true is h = cc is
placed_possible change other false is h = let same : other ≡ change = cc is in subst (λ (c : Change). IsPossibleRow c.row) same h

fitted_possible : (row : WagonRow) (message : Message) (transition : Option Transition) (change : Change) → IfSome transition (Leaves message.kind row.held row.promise message.moment) → fitted row message transition ≡ Ok change → IsPossibleRow change.row
fitted_possible row message None change h is = cc is
fitted_possible row message (Some transition) change h is = placed_possible change (change_by row message transition) _ is (left_possible row message transition h)

no_earlier : (b : Bool) (r : Result Change StepFault) (change : Change) → cond b (Err Earlier) r ≡ Ok change → (b ≡ false) × (r ≡ Ok change)
no_earlier true r change h = cc h
no_earlier false r change h = (refl, h)

pub stay_possible : RowsStayPossible
unfolding step_of
stay_possible row message order_place change is h =
    let (not_earlier, fits) = no_earlier (nat_lt message.moment row.last) _ change is in
    let later : row.last ≤ message.moment = grind (arith, nat_tests, not_earlier) in
    fitted_possible row message (transition_of message.kind row.status (is_at order_place message.place) message.place message.moment) change
    (by_table row.held row.promise row.last message.moment later h.held message.kind row.status (is_at order_place message.place) message.place h.ready h.promised) fits
