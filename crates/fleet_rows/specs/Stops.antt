-- Why a file isn't read as a roster, and at which record.
use Rattle.std.specs.Prelude.{◌≡◌, ℕ, ◌-◌, ◌≤◌, List, Option, Some, None, IfErr, Result, Ok, Err, slice_get}
use Rattle.csv_records.specs.Fields.{Record}
use Rattle.csv_records.specs.Reading.{Stops}
use Rattle.csv_records.specs.Stopping.{StopsAt}
use Rattle.csv_records.specs.declared.fault_at.FaultAt.{FaultAt}
use Rattle.faults.specs.ReadingFaults.{roster_fault_of}
use Rattle.faults.specs.declared.faults.RecordFault.{RecordFault}
use Rattle.faults.specs.declared.faults.RosterFault.{RosterFault}
use Rattle.faults.specs.declared.faults.RosterFault.TheVariants.{OutOfMemory, DuplicateWagon, TooLarge, BadRosterRow, ReadFailed}
use Rattle.fleet_rows.specs.Reading.{is_failure, rows_of}
use Rattle.fleet_rows.specs.Records.{wagon_record}
use Rattle.fleet_rows.specs.RosterOf.{IsReadFrom}
use Rattle.fleet_rows.specs.declared.roster_refusal.RosterRefusal.{RosterRefusal}
use Rattle.wagons_and_orders.specs.declared.wagon_row.WagonRow.{WagonRow}

-- The record of this number, the header being record 1, says this wagon.
pub record SaysWagon (records : List Record) (number : ℕ) (wagon : List ℕ) : Type 0 where
  pub below_header : 2 ≤ number
  pub fields : Record
  pub there : slice_get records (number - 1) ≡ Some fields
  pub row : WagonRow
  pub said : wagon_record fields ≡ Some row
  pub same : row.number ≡ wagon

-- of a wagon that stands twice, the record that says it first is known
abbrev pub IsFirstOf : RosterFault → (first : Option ℕ) → List Record → Type 0
IsFirstOf (DuplicateWagon wagon) (Some number) records = SaysWagon records number wagon
IsFirstOf (DuplicateWagon wagon) None records = ⊥
IsFirstOf OutOfMemory first records = Unit {0}
IsFirstOf TooLarge first records = Unit {0}
IsFirstOf (BadRosterRow n) first records = Unit {0}
IsFirstOf ReadFailed first records = Unit {0}

-- the fault of a refusal is the first of these records, unless memory or the reader failed
abbrev pub Refuses : RosterRefusal → List Record → Type 0
Refuses refusal records = Stops is_failure refusal.fault (rows_of records) × IsFirstOf refusal.fault refusal.first records

-- the rows that records say
abbrev pub AreRowsOf : List WagonRow → List Record → Type 0
AreRowsOf rows records = rows_of records ≡ Ok rows

-- memory or the reader failed
abbrev pub IsFailureOf : RecordFault → RosterRefusal → Type 0
IsFailureOf failure refusal = refusal.fault ≡ roster_fault_of failure

-- what is answered, without the record
abbrev pub plain : {A : Type 0} → Result A (FaultAt RosterRefusal) → Result A RosterFault
plain (Ok value) = Ok value
plain (Err stop) = Err stop.fault.fault

-- What reading answers: a file's roster or its first fault; and where it stopped, the record at which the fault is found: those
-- before it say rows, and with it there is this fault, whatever follows.
pub record IsReadTo (known : Option (List ℕ)) (result : Result (List WagonRow) (FaultAt RosterRefusal)) : Type 0 where
  pub read : IsReadFrom known (plain result)
  pub stop : IfErr result (λ stop. StopsAt IsFailureOf AreRowsOf Refuses read.records stop.fault stop.at)
