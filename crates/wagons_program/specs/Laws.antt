-- Which numbers are refusals: those that the faults of the libraries have.
use Rattle.std.specs.Prelude.{◌≡◌, ℕ, List, IsTrue, All, Vec}
use Rattle.std.specs.declared.alloc.Global.{Global}
use Rattle.rail_codes.specs.declared.code_fault.CodeFault.{CodeFault}
use Rattle.rail_codes.specs.CodeFault as code
use Rattle.faults.specs.Numbers.{step_fault_number, record_fault_number, roster_fault_number, checkpoint_fault_number, fleet_fault_number, network_fault_number, work_fault_number, table_fault_number, check_fault_number, named_fault_number, apply_fault_number, refusal_number, plan_fault_number, feed_fault_number}
use Rattle.line_fields.specs.declared.fault.FieldFault.{FieldFault}
use Rattle.line_fields.specs.declared.fault.LineFault.{LineFault}
use Rattle.line_fields.specs.Faults.{field_fault_number, line_fault_number}
use Rattle.faults.specs.declared.faults.StepFault.{StepFault}
use Rattle.faults.specs.declared.faults.RecordFault.{RecordFault}
use Rattle.faults.specs.declared.faults.RosterFault.{RosterFault}
use Rattle.faults.specs.declared.faults.CheckpointFault.{CheckpointFault}
use Rattle.faults.specs.declared.faults.FleetFault.{FleetFault}
use Rattle.line_engine.specs.declared.run.RunFault.{RunFault}
use Rattle.line_engine.specs.RunFault as run
use Rattle.faults.specs.declared.faults.NetworkFault.{NetworkFault}
use Rattle.line_network.specs.declared.networks_fault.NetworksFault.{NetworksFault}
use Rattle.place_names.specs.Faults.{places_fault_number}
use Rattle.place_names.specs.declared.places_fault.PlacesFault.{PlacesFault}
use Rattle.faults.specs.declared.faults.WorkFault.{WorkFault}
use Rattle.faults.specs.declared.faults.TableFault.{TableFault}
use Rattle.faults.specs.declared.faults.CheckFault.{CheckFault}
use Rattle.faults.specs.declared.faults.NamedFault.{NamedFault}
use Rattle.table_lines.specs.declared.table_refusal.TableRefusal.{TableRefusal}
use Rattle.table_lines.specs.TableRefusals.{table_refusal_number}
use Rattle.faults.specs.declared.faults.ApplyFault.{ApplyFault}
use Rattle.faults.specs.declared.faults.Refusal.{Refusal}
use Rattle.faults.specs.declared.faults.PlanFault.{PlanFault}
use Rattle.sessions.specs.declared.open_fault.OpenFault.{OpenFault}
use Rattle.sessions.specs.declared.close_fault.CloseFault.{CloseFault}
use Rattle.sessions.specs.CloseFault as close
use Rattle.sessions.specs.Seat.{SeatValue}
use Rattle.faults.specs.declared.faults.FeedFault.{FeedFault}
use Rattle.faults.specs.RefusalNumbers.{is_refusal_number, refusal_numbers}

-- a fault of any of the libraries' types, in the order of the libraries; L is the ledger of a shared office
pub data AnyFault (L : Type 0) : Type 0 where
  of_code : CodeFault → AnyFault L
  of_field : FieldFault → AnyFault L
  of_line : LineFault → AnyFault L
  of_step : StepFault → AnyFault L
  of_record : RecordFault → AnyFault L
  of_roster : RosterFault → AnyFault L
  of_checkpoint : CheckpointFault → AnyFault L
  of_fleet : FleetFault → AnyFault L
  of_run : RunFault → AnyFault L
  of_network : NetworkFault → AnyFault L
  of_networks : NetworksFault → AnyFault L
  of_places : PlacesFault → AnyFault L
  of_work : WorkFault → AnyFault L
  of_table : TableFault → AnyFault L
  of_check : CheckFault → AnyFault L
  of_named : NamedFault → AnyFault L
  of_table_line : TableRefusal → AnyFault L
  of_event : ApplyFault → AnyFault L
  of_call : Refusal → AnyFault L
  of_plan : PlanFault → AnyFault L
  of_opening : OpenFault → AnyFault L
  of_closing : CloseFault L → AnyFault L
  of_feed : FeedFault → AnyFault L

-- the number that its type's method `number` answers; those of two types always answer 47 and 1
abbrev pub number_of : {L : Type 0} → AnyFault L → ℕ
number_of (of_code fault) = code.fault_number fault
number_of (of_field fault) = field_fault_number fault
number_of (of_line fault) = line_fault_number fault
number_of (of_step fault) = step_fault_number fault
number_of (of_record fault) = record_fault_number fault
number_of (of_roster fault) = roster_fault_number fault
number_of (of_checkpoint fault) = checkpoint_fault_number fault
number_of (of_fleet fault) = fleet_fault_number fault
number_of (of_run fault) = run.number_of fault
number_of (of_network fault) = network_fault_number fault
number_of (of_networks fault) = 47
number_of (of_places fault) = places_fault_number fault
number_of (of_work fault) = work_fault_number fault
number_of (of_table fault) = table_fault_number fault
number_of (of_check fault) = check_fault_number fault
number_of (of_named fault) = named_fault_number fault
number_of (of_table_line fault) = table_refusal_number fault
number_of (of_event fault) = apply_fault_number fault
number_of (of_call fault) = refusal_number fault
number_of (of_plan fault) = plan_fault_number fault
number_of (of_opening fault) = 1
number_of (of_closing fault) = close.fault_number fault
number_of (of_feed fault) = feed_fault_number fault

-- the number of each fault is in the list
abbrev pub EachFaultIsListed : Type 0 → Type 0
EachFaultIsListed L = (fault : AnyFault L) → IsTrue (is_refusal_number (number_of fault))

-- each of these numbers is that of a fault
abbrev pub AreFaults : Type 0 → List ℕ → Type 0
AreFaults L numbers = All (λ number. (fault : AnyFault L) × (number_of fault ≡ number)) numbers

-- each number of the list is that of a fault (the one that seats are missing hands back those that came)
abbrev pub EachNumberIsAFaults : Type 0 → Type 0
EachNumberIsAFaults L = Vec SeatValue Global → AreFaults L refusal_numbers
