-- What an office keeps that forgets its closed orders: all that it shows, and every later answer.
use Rattle.std.specs.Prelude.{◌≡◌, ◌↔◌, ℕ, true, false, List, [], ◌∷◌, ◌++◌, Option, Result, Ok, Err, IfSome, All}
use Rattle.std.specs.Option.{IsSomeAnd}
use Rattle.std.specs.List.{filter, fold}
use Rattle.std.specs.Result.{result_err, result_unwrap_or}
use Rattle.wagons_and_orders.specs.Lack.{is_open}
use Rattle.fleet_rows.specs.Rows.{order_in}
use Rattle.faults.specs.declared.faults.ApplyFault.{ApplyFault}
use Rattle.move_messages.specs.declared.event.Event.{Event}
use Rattle.move_messages.specs.declared.event.Event.TheVariants.{Place, Withdraw}
use Rattle.operating_db.specs.After.{after_call}
use Rattle.operating_db.specs.Commits.{CanPromise, Pair, lack_in}
use Rattle.operating_db.specs.Compact.{compact}
use Rattle.operating_db.specs.FirstOffice.{IsFirstOffice}
use Rattle.operating_db.specs.FreeCount.{free_count}
use Rattle.operating_db.specs.Laws.{Leads}
use Rattle.operating_db.specs.Office.{Office}
use Rattle.operating_db.specs.Problem.{problem_of}
use Rattle.operating_db.specs.Promises.{PromisesAgree}
use Rattle.operating_db.specs.Steps.{IsPromised}

-- two offices that differ in closed orders alone
abbrev pub AreAlike : (one other : Office) → Type 0
AreAlike one other = compact one ≡ compact other

-- ---- what an office without its closed orders is

-- its promises agree where those of the office do
abbrev pub CompactAgrees : Type 0
CompactAgrees = (office : Office) → PromisesAgree office → PromisesAgree (compact office)

-- a book may begin with it where it may begin with the office
abbrev pub CompactBegins : Type 0
CompactBegins = (networks : ℕ) (office : Office) → IsFirstOffice networks office → IsFirstOffice networks (compact office)

-- it is like the office, and has the same problem at each moment
abbrev pub CompactIsAlike : Type 0
CompactIsAlike = (office : Office) → AreAlike office (compact office) × ((at : ℕ) → problem_of (compact office) at ≡ problem_of office at)

-- ---- what two offices show

-- what plans, commits and sheets of the open orders go by
pub record ShowTheSame (one other : Office) : Type 0 where
  pub wagons : one.wagons ≡ other.wagons
  pub network : one.network ≡ other.network
  pub open_orders : filter is_open one.orders ≡ filter is_open other.orders
  pub problem : (at : ℕ) → problem_of one at ≡ problem_of other at
  pub lack : (id : List ℕ) → lack_in (order_in one.orders id) ≡ lack_in (order_in other.orders id)
  pub free : (class place : List ℕ) → free_count one.wagons class place ≡ free_count other.wagons class place
  pub promisable : (pairs : List Pair) → CanPromise one pairs ↔ CanPromise other pairs

abbrev pub AlikeShowTheSame : Type 0
AlikeShowTheSame = (one other : Office) → PromisesAgree one → PromisesAgree other → AreAlike one other → ShowTheSame one other

-- ---- what one event does to two offices

-- the order of this name is closed
abbrev pub IsClosed : Office → (id : List ℕ) → Type 0
IsClosed office id = IsSomeAnd (order_in office.orders id) (λ row. is_open row ≡ false)

-- no closed order has this name
abbrev pub IsNoneClosed : Office → (id : List ℕ) → Type 0
IsNoneClosed office id = IfSome (order_in office.orders id) (λ row. is_open row ≡ true)

-- An event that names no closed order. A message goes by its wagon's promise, and a commit by what lacks a wagon.
abbrev pub NamesNoneClosed : Office → Event → Type 0
NamesNoneClosed office (Place text) = IsNoneClosed office text.id
NamesNoneClosed office (Withdraw id) = IsNoneClosed office id
NamesNoneClosed office event = Unit {0}

-- one fault, or two offices that are alike
abbrev pub AnswersAgree : (one other : Result Office ApplyFault) → Type 0
AnswersAgree (Ok one) (Ok other) = AreAlike one other
AnswersAgree (Err one) (Err other) = one ≡ other
AnswersAgree one other = ⊥

-- an event may happen to both or to neither, and both answer it alike
pub record AnswerTheSame (networks : ℕ) (one other : Office) (event : Event) : Type 0 where
  pub promised : IsPromised one event ↔ IsPromised other event
  pub answers : AnswersAgree (after_call networks one event) (after_call networks other event)

abbrev pub AlikeAnswerTheSame : Type 0
AlikeAnswerTheSame =
    (networks : ℕ) (one other : Office) (event : Event) → PromisesAgree one → PromisesAgree other → AreAlike one other
    → NamesNoneClosed one event → NamesNoneClosed other event → AnswerTheSame networks one other event

-- ---- events, one after the other

-- an order that is closed stays so, whatever happens
abbrev pub ClosedStayClosed : Type 0
ClosedStayClosed =
    (networks : ℕ) (office : Office) (events : List Event) (after : Office) → PromisesAgree office → Leads networks office events after
    → (id : List ℕ) → IsClosed office id → IsClosed after id

-- the events lead to an office that is like this one
abbrev pub LeadsAlike : (networks : ℕ) → Office → List Event → Office → Type 0
LeadsAlike networks office events after = (other : Office) × Leads networks office events other × AreAlike after other

-- Where events lead to an office, they lead to one like it from the office without its closed orders. They may name an
-- order that is open now and closed by then, since both know it.
abbrev pub NothingIsLost : Type 0
NothingIsLost =
    (networks : ℕ) (office : Office) (events : List Event) (after : Office) → PromisesAgree office → All (NamesNoneClosed office) events
    → Leads networks office events after → LeadsAlike networks (compact office) events after

-- the other way round: what happens to the office without its closed orders could have happened to the whole one
abbrev pub NothingIsAdded : Type 0
NothingIsAdded =
    (networks : ℕ) (office : Office) (events : List Event) (after : Office) → PromisesAgree office → All (NamesNoneClosed office) events
    → Leads networks (compact office) events after → LeadsAlike networks office events after

-- ---- the same, where some of the events are refused

-- the office after an event; one that is refused leaves it as it was
abbrev pub after_event : (networks : ℕ) → Office → Event → Office
after_event networks office event = result_unwrap_or (after_call networks office event) office

abbrev pub after_events : (networks : ℕ) → Office → List Event → Office
after_events networks office events = fold (after_event networks) office events

-- what each event is refused with; none where it is accepted
abbrev pub refusals : (networks : ℕ) → Office → List Event → List (Option ApplyFault)
refusals networks office [] = []
refusals networks office (event ∷ events) = result_err (after_call networks office event) ∷ refusals networks (after_event networks office event) events

-- each commit can be promised in the office to which it happens
abbrev pub ArePromised : (networks : ℕ) → Office → List Event → Type 0
ArePromised networks office events =
    (before : List Event) (event : Event) (later : List Event) → events ≡ before ++ event ∷ later → IsPromised (after_events networks office before) event

-- two offices refuse the same events for the same reasons, and are alike after them
pub record EndTheSame (networks : ℕ) (one other : Office) (events : List Event) : Type 0 where
  pub refused : refusals networks one events ≡ refusals networks other events
  pub after : AreAlike (after_events networks one events) (after_events networks other events)

abbrev pub NoAnswerChanges : Type 0
NoAnswerChanges =
    (networks : ℕ) (office : Office) (events : List Event) → PromisesAgree office → All (NamesNoneClosed office) events
    → ArePromised networks office events → EndTheSame networks office (compact office) events
