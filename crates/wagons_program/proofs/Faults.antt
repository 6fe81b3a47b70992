-- Faults and the list of refusal numbers.
use Rattle.std.proofs.Common.{ℕ, zero, suc, List, [], ◌∷◌, map, codes, refl, arith, Vec, Global}
use Rattle.sessions.specs.Seat.{SeatValue}
use Rattle.faults.specs.RefusalNumbers.{refusals}
use Rattle.line_fields.specs.declared.field.Field.TheVariants.{Wagon}
use Rattle.line_network.specs.declared.networks_fault.NetworksFault.TheVariants.{BadNetworkCount}
use Rattle.rail_codes.specs.declared.code_fault.CodeFault.TheVariants as code
use Rattle.line_fields.specs.declared.fault.FieldFault.TheVariants as field
use Rattle.line_fields.specs.declared.fault.LineFault.TheVariants as line
use Rattle.faults.specs.declared.faults.StepFault.TheVariants as step
use Rattle.faults.specs.declared.faults.RecordFault.TheVariants as records
use Rattle.faults.specs.declared.faults.RosterFault.TheVariants as roster
use Rattle.faults.specs.declared.faults.CheckpointFault.TheVariants as checkpoint
use Rattle.faults.specs.declared.faults.FleetFault.TheVariants as fleet
use Rattle.line_engine.specs.declared.run.RunFault.TheVariants as run
use Rattle.faults.specs.declared.faults.NetworkFault.TheVariants as network
use Rattle.place_names.specs.declared.places_fault.PlacesFault.TheVariants as places
use Rattle.faults.specs.declared.faults.WorkFault.TheVariants as work
use Rattle.faults.specs.declared.faults.TableFault.TheVariants as table
use Rattle.faults.specs.declared.faults.CheckFault.TheVariants as check
use Rattle.faults.specs.declared.faults.NamedFault.TheVariants as named
use Rattle.table_lines.specs.declared.table_refusal.TableRefusal.TheVariants as table_line
use Rattle.faults.specs.declared.faults.ApplyFault.TheVariants as event
use Rattle.faults.specs.declared.faults.Refusal.TheVariants as call
use Rattle.faults.specs.declared.faults.PlanFault.TheVariants as plan
use Rattle.sessions.specs.declared.close_fault.CloseFault.TheVariants as close
use Rattle.faults.specs.declared.faults.FeedFault.TheVariants as feed
use Rattle.wagons_program.specs.Laws.{AnyFault, of_code, of_field, of_line, of_step, of_record, of_roster, of_checkpoint, of_fleet, of_run, of_network, of_networks, of_places, of_work, of_table, of_check, of_named, of_table_line, of_event, of_call, of_plan, of_closing, of_feed, EachFaultIsListed, EachNumberIsAFaults, AreFaults, number_of}

-- each computes: a case of each type, and at the end one that stands for all others
pub listed : (L : Type 0) → EachFaultIsListed L
unfolding refusals
listed L (of_code code.NotTwelveDigits) = refl
listed L (of_field (field.Code code.NotTwelveDigits)) = refl
listed L (of_line line.OutOfMemory) = refl
listed L (of_step step.Earlier) = refl
listed L (of_record records.OutOfMemory) = refl
listed L (of_roster roster.OutOfMemory) = refl
listed L (of_checkpoint (checkpoint.BadCheckpointLine n)) = refl
listed L (of_fleet fleet.OutOfMemory) = refl
listed L (of_run run.OutOfMemory) = refl
listed L (of_network network.OutOfMemory) = refl
listed L (of_places places.OutOfMemory) = refl
listed L (of_work work.OutOfMemory) = refl
listed L (of_table table.OutOfMemory) = refl
listed L (of_check check.WrongLengths) = refl
listed L (of_named named.OutOfMemory) = refl
listed L (of_table_line (table_line.Line line.OutOfMemory)) = refl
listed L (of_table_line (table_line.Table table.OutOfMemory)) = refl
listed L (of_table_line (table_line.Check named.OutOfMemory)) = refl
listed L (of_event (event.Step step.Earlier)) = refl
listed L (of_call (call.Step step.Earlier)) = refl
listed L (of_call (call.Check named.OutOfMemory)) = refl
listed L (of_plan plan.OutOfMemory) = refl
listed L (of_closing (close.SeatsMissing a b)) = refl
listed L (of_feed feed.OutOfMemory) = refl
listed L fault = refl

a_wagon : List ℕ
a_wagon = codes "338447961008"

an_order : List ℕ
an_order = codes "O1"

-- a fault of each number
abbrev examples : (L : Type 0) → Vec SeatValue Global → List (AnyFault L)
examples L seats =
    of_line line.OutOfMemory
    ∷ of_code code.NotTwelveDigits
    ∷ of_code code.CheckDigit
    ∷ of_code code.BadPlace
    ∷ of_code code.BadClass
    ∷ of_code code.BadCompany
    ∷ of_code code.BadOrderId
    ∷ of_code code.BadMoment
    ∷ of_code code.MomentOutOfRange
    ∷ of_field field.WrongKind
    ∷ of_field field.OutOfRange
    ∷ of_line line.NotJson
    ∷ of_line line.NotAnObject
    ∷ of_line line.UnknownType
    ∷ of_line (line.MissingField Wagon)
    ∷ of_line (line.BadField Wagon field.WrongKind)
    ∷ of_step step.Earlier
    ∷ of_step step.WrongStatus
    ∷ of_step step.WrongPlace
    ∷ of_network (network.BadRow 1)
    ∷ of_network network.TooManyPlaces
    ∷ of_network network.TooManyLines
    ∷ of_work work.BadWorkerCount
    ∷ of_work work.NoThread
    ∷ of_networks BadNetworkCount
    ∷ of_table (table.DuplicateWagon a_wagon)
    ∷ of_table (table.DuplicateOrder an_order)
    ∷ of_table table.TooLarge
    ∷ of_table table.UnevenRows
    ∷ of_check check.WrongLengths
    ∷ of_check (check.NotAllowed 0 0)
    ∷ of_check (check.UsedTwice 0 0)
    ∷ of_check (check.PriceGap 0 0)
    ∷ of_check (check.OverPenalty 0)
    ∷ of_check (check.SumsDiffer 0 1)
    ∷ of_call call.IdReused
    ∷ of_call call.BookFull
    ∷ of_call call.UnknownWagon
    ∷ of_call call.OrderKnown
    ∷ of_call call.TooManyOpen
    ∷ of_call call.UnknownOrder
    ∷ of_call call.OrderClosed
    ∷ of_roster (roster.BadRosterRow 1)
    ∷ of_call call.UnknownNetwork
    ∷ of_call call.SameNetwork
    ∷ of_call call.NotKept
    ∷ of_call (call.WagonChanged a_wagon)
    ∷ of_call (call.OrderChanged an_order)
    ∷ of_named (named.NotInProblem a_wagon an_order)
    ∷ of_checkpoint (checkpoint.BadCheckpointLine 1)
    ∷ of_checkpoint (checkpoint.OneSidedPromise 1)
    ∷ of_checkpoint (checkpoint.OrderFull 1)
    ∷ of_checkpoint (checkpoint.CheckpointCut 1)
    ∷ of_fleet (fleet.WagonPromised a_wagon)
    ∷ of_run (run.TooManyLines 1)
    ∷ of_run (run.LineTooLong 1)
    ∷ of_run (run.ReadFailed 1)
    ∷ of_run (run.WriteFailed 1)
    ∷ of_closing (close.SeatsMissing (record { seats = 1 }) seats)
    ∷ of_feed (feed.ReceiptLost 1 1) ∷ []

are_faults : (L : Type 0) (faults : List (AnyFault L)) → AreFaults L (map number_of faults)
are_faults L [] k d lt = absurd (omega arith)
are_faults L (fault ∷ faults) zero d lt = (fault, refl)
are_faults L (fault ∷ faults) (suc k) d lt = are_faults L faults k d (omega arith)

pub answered : (L : Type 0) → EachNumberIsAFaults L
unfolding refusals
answered L seats = are_faults L (examples L seats)
