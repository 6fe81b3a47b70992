-- The status table: what a movement message makes of a wagon's row.
use Rattle.std.specs.Prelude.{nat_eq, nat_lt, ℕ, Bool, true, false, not, ◌&&◌, if◌then◌else◌, List, Option, Some, None, Result, Ok, Err}
use Rattle.std.specs.Cmp.Lexicographic.{pointwise}
use Rattle.move_messages.specs.declared.message.Message.{Message}
use Rattle.move_messages.specs.declared.message.MessageKind.{MessageKind}
use Rattle.move_messages.specs.declared.message.MessageKind.TheVariants.{Release, Departure, YardArrival, YardDeparture, Exception, Arrival, Delivery}
use Rattle.wagons_and_orders.specs.declared.load.Load.TheVariants.{Loaded, Unladen}
use Rattle.wagons_and_orders.specs.declared.status.Status.{Status}
use Rattle.wagons_and_orders.specs.declared.status.Status.TheVariants.{Empty, Loading, Ready, Journey, Yard, Arrived, Unloading}
use Rattle.wagons_and_orders.specs.declared.change.Effect.{Effect}
use Rattle.wagons_and_orders.specs.declared.change.Effect.TheVariants as effect
use Rattle.wagons_and_orders.specs.declared.change.Change.{Change}
use Rattle.wagons_and_orders.specs.declared.wagon_row.WagonRow.{WagonRow}
use Rattle.faults.specs.declared.faults.StepFault.{StepFault}
use Rattle.faults.specs.declared.faults.StepFault.TheVariants.{Earlier, WrongStatus, WrongPlace}
use Rattle.wagons_and_orders.specs.declared.status_table.Transition.{Transition}

-- A line of the table says the status that follows, what becomes of a promise, and whether the message must name
-- the place where the wagon is. A line for the wagon's own place keeps a promise.
abbrev pub own_place : Status → Transition
own_place next = record { next = next; effect = effect.None; own_place = true }

abbrev pub any_place : Status → Effect → Transition
any_place next on_promise = record { next = next; effect = on_promise; own_place = false }

-- The table, one clause for each line of it: the message and the status that it finds, whether the wagon is
-- promised and the message names the place of its order, and the message's place and moment.
abbrev pub transition_of : MessageKind → Status → (at_order : Bool) → (place : List ℕ) → (moment : ℕ) → Option Transition
transition_of Release (Loading at) at_order place moment = Some (own_place (Ready place))
transition_of Release (Unloading at) at_order place moment = Some (own_place (Empty place moment))
transition_of Departure (Ready at) at_order place moment = Some (own_place (Journey Loaded place))
transition_of Departure (Empty at ready) at_order place moment = Some (own_place (Journey Unladen place))
transition_of YardArrival (Journey load at) at_order place moment = Some (any_place (Yard load place) effect.None)
transition_of YardDeparture (Yard load at) at_order place moment = Some (own_place (Journey load place))
transition_of Arrival (Journey load at) at_order place moment = Some (any_place (Arrived load place) effect.None)
transition_of Delivery (Arrived Loaded at) at_order place moment = Some (any_place (Unloading place) effect.None)
transition_of Delivery (Arrived Unladen at) true place moment = Some (any_place (Loading place) effect.Fills)
transition_of Delivery (Arrived Unladen at) false place moment = Some (any_place (Empty place moment) effect.Ends)
transition_of (Exception true) status at_order place moment = Some (any_place status effect.Ends)
transition_of (Exception false) (Empty at ready) at_order place moment = Some (any_place (Empty at moment) effect.None)
transition_of (Exception false) status at_order place moment = Some (any_place status effect.None)
transition_of kind status at_order place moment = None

-- where a wagon is, by its status
abbrev pub place_of : Status → List ℕ
place_of (Empty place ready) = place
place_of (Loading place) = place
place_of (Ready place) = place
place_of (Journey load place) = place
place_of (Yard load place) = place
place_of (Arrived load place) = place
place_of (Unloading place) = place

-- whether two texts are one place
abbrev pub is_same_place : List ℕ → List ℕ → Bool
is_same_place place other = pointwise nat_eq place other

-- whether there is an order and it is at this place
abbrev pub is_at : Option (List ℕ) → List ℕ → Bool
is_at None place = false
is_at (Some at) place = is_same_place at place

-- only an exception sets or lifts a hold
abbrev pub held_after : MessageKind → Bool → Bool
held_after (Exception hold) held = hold
held_after kind held = held

-- what becomes of a promise; nothing where there is none
abbrev pub effect_on : Option (List ℕ) → Effect → Effect
effect_on None on_promise = effect.None
effect_on (Some order) on_promise = on_promise

-- a promise is kept, or the row has none
abbrev pub promise_after : Effect → Option (List ℕ) → Option (List ℕ)
promise_after effect.None promise = promise
promise_after effect.Fills promise = None
promise_after effect.Ends promise = None

-- a transition as it changes a row: every message sets the last moment
abbrev pub change_by : WagonRow → Message → Transition → Change
change_by row message transition =
    record {
      row = record row { status = transition.next; held = held_after message.kind row.held; last = message.moment; promise = promise_after transition.effect row.promise };
      effect = effect_on row.promise transition.effect;
    }

-- the change by a transition, where the message names a place that it allows
abbrev pub placed : WagonRow → Message → Transition → Result Change StepFault
placed row message transition =
    if transition.own_place && not (is_same_place message.place (place_of row.status)) then Err WrongPlace
    else Ok (change_by row message transition)

-- the change by the transition that fits, if there is one
abbrev pub fitted : WagonRow → Message → Option Transition → Result Change StepFault
fitted row message None = Err WrongStatus
fitted row message (Some transition) = placed row message transition

-- what a message makes of a row, where `order_place` is the place of the order that the wagon is promised to; or
-- the first fault: the message is older than the last one, no line fits, or the message names a place that the
-- line does not allow
unfoldable pub step_of : WagonRow → Message → (order_place : Option (List ℕ)) → Result Change StepFault
step_of row message order_place =
    if nat_lt message.moment row.last then Err Earlier
    else fitted row message (transition_of message.kind row.status (is_at order_place message.place) message.place message.moment)
