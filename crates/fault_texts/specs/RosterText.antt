-- What is said of a file that is no roster.
use Rattle.std.specs.Prelude.{ℕ, List, ◌++◌, Option, Some, None, option_map, codes, decimal}
use Rattle.csv.specs.Records.{fields_of}
use Rattle.csv_records.specs.Fields.{Record}
use Rattle.csv_records.specs.declared.fault_at.FaultAt.{FaultAt}
use Rattle.csv_records.specs.declared.fault_at.RecordAt.{RecordAt}
use Rattle.faults.specs.declared.faults.RosterFault.{RosterFault}
use Rattle.faults.specs.declared.faults.RosterFault.TheVariants.{OutOfMemory, DuplicateWagon, TooLarge, BadRosterRow, ReadFailed}
use Rattle.fleet_rows.specs.Unfit.{field_name, first_unfit}
use Rattle.fleet_rows.specs.declared.roster_field.RosterField.{RosterField}
use Rattle.fleet_rows.specs.declared.roster_field.RosterField.TheVariants.{Wagon, Class, Load, Status, Place, Moment}
use Rattle.fleet_rows.specs.declared.roster_refusal.RosterRefusal.{RosterRefusal}
use Rattle.fault_texts.specs.BadRecord.{bad_record_text}
use Rattle.fault_texts.specs.Shown.{shown}
use Rattle.fault_texts.specs.Where.{at_record}

abbrev pub roster_header : List ℕ
roster_header = codes "wagon,class,load,status,place,moment"

-- what a field's text isn't
abbrev pub complaint : RosterField → List ℕ
complaint Wagon = codes " is no wagon number: twelve digits, of which the last is the check digit of the others"
complaint Class = codes " is no class: 1 to 12 letters A-Z and a-z"
complaint Load = codes " is no whole number of kg from 0 to 200,000"
complaint Status = codes " is no status: empty, loading, ready, journey_loaded, journey_empty, yard_loaded, yard_empty, arrived_loaded, arrived_empty or unloading"
complaint Place = codes " is no place: two letters A-Z and five digits"
complaint Moment = codes " is no moment of the years 2000 to 2099, as 2026-03-01T00:00:00Z"

-- the first field that isn't as its rule asks: its name, its text, and what that isn't
abbrev pub unfit_in : Record → Option (List ℕ × List ℕ × List ℕ)
unfit_in fields = option_map (λ (unfit : RosterField × List ℕ). (field_name unfit.0, unfit.1, complaint unfit.0)) (first_unfit fields)

-- the record that says a wagon first, where it is known, and the one that says it again
abbrev pub twice_text : (path : List ℕ) → (first : Option ℕ) → (number : ℕ) → (wagon : List ℕ) → List ℕ
twice_text path (Some first) number wagon = shown path ++ codes ", records " ++ decimal first ++ codes " and " ++ decimal number ++ codes ": both are of wagon " ++ wagon
twice_text path None number wagon = at_record path number ++ codes ": an earlier record is of this wagon too: " ++ wagon

-- by the record at which reading stopped
abbrev pub roster_fault_text : (path : List ℕ) → RosterFault → (first : Option ℕ) → RecordAt → List ℕ
roster_fault_text path OutOfMemory first at = codes "out of memory"
roster_fault_text path (DuplicateWagon wagon) first at = twice_text path first at.number wagon
roster_fault_text path TooLarge first at = at_record path at.number ++ codes ": a roster has at most 1,000 wagons"
roster_fault_text path (BadRosterRow n) first at = bad_record_text path roster_header 6 at (unfit_in (fields_of at.fields))
roster_fault_text path ReadFailed first at = shown path ++ codes ": it couldn't be read"

-- the same by the refusal
abbrev pub roster_text : (path : List ℕ) → FaultAt RosterRefusal → List ℕ
roster_text path refusal = roster_fault_text path refusal.fault.fault refusal.fault.first refusal.at
