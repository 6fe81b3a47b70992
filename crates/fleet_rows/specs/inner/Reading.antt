-- What reading a roster keeps from record to record, and why a wagon is not added.
use Rattle.std.specs.Prelude.{◌≡◌, ℕ, ◌+◌, true, IfErr, List, length, map, Option, option_map, Result}
use Rattle.std.specs.List.{position}
use Rattle.std.specs.List.Sorted.{IsPermutation}
use Rattle.csv_records.specs.Fields.{Record}
use Rattle.csv_records.specs.Reading.{SaysSoFar}
use Rattle.csv_records.specs.Stopping.{StopsAt}
use Rattle.csv_records.specs.declared.fault_at.FaultAt.{FaultAt}
use Rattle.faults.specs.ReadingFaults.{roster_fault_of}
use Rattle.faults.specs.declared.faults.RecordFault.{RecordFault}
use Rattle.faults.specs.declared.faults.RecordFault.TheVariants as rf
use Rattle.wagons_and_orders.specs.declared.wagon_row.WagonRow.{WagonRow}
use Rattle.fleet_rows.specs.Reading.{Gives, roster_rule, rows_of}
use Rattle.fleet_rows.specs.Roster.{IsRoster}
use Rattle.fleet_rows.specs.SameWagons.{has_wagon, is_same_number}
use Rattle.fleet_rows.specs.Stops.{AreRowsOf, IsFailureOf, Refuses, plain}
use Rattle.fleet_rows.specs.declared.roster_refusal.RosterRefusal.{RosterRefusal}
use Rattle.fleet_rows.specs.declared.roster_so_far.RosterSoFar.{RosterSoFar}
use Rattle.faults.specs.declared.faults.RosterFault.{RosterFault}
use Rattle.faults.specs.declared.faults.RosterFault.TheVariants.{OutOfMemory, DuplicateWagon, TooLarge, BadRosterRow, ReadFailed}

-- These records, the header among them, say the rows of this roster, whatever follows them.
pub record IsReadSoFar (roster : List WagonRow) (records : List Record) : Type 0 where
  pub rows : List WagonRow
  pub so_far : SaysSoFar roster_rule rows records
  pub same : IsPermutation rows roster
  pub few : length roster + 1 ≡ length records
  pub kept : IsRoster roster

-- The same, and these are their wagons in the records' order.
pub record IsNumberedSoFar (so_far : RosterSoFar) (records : List Record) : Type 0 where
  pub read : IsReadSoFar so_far.roster records
  pub in_order : so_far.named.items ≡ map (λ (row : WagonRow). row.number) read.rows

-- the number of the first record that names a wagon, where these are the wagons of the records behind the header
abbrev pub first_record : (named : List (List ℕ)) → (wagon : List ℕ) → Option ℕ
first_record named wagon = option_map (λ k. k + 2) (position (is_same_number wagon) named)

-- the first record that names a wagon is told where an earlier record did
abbrev pub TellsFirst : RosterFault → (first : Option ℕ) → (named : List (List ℕ)) → (wagon : List ℕ) → Type 0
TellsFirst fault first named wagon = fault ≡ DuplicateWagon wagon → first ≡ first_record named wagon

-- what reading the records that are left answers: their rows or their first fault, and then the record at which it is found
abbrev pub IsReadOff : (are_left : List Record → Type 0) → Result (List WagonRow) (FaultAt RosterRefusal) → Type 0
IsReadOff are_left result = (all : List Record) × are_left all × Gives (plain result) (rows_of all)
    × IfErr result (λ stop. StopsAt IsFailureOf AreRowsOf Refuses all stop.fault stop.at)

-- why a wagon was not added
abbrev pub RefusesWagon : RosterFault → List WagonRow → WagonRow → Type 0
RefusesWagon OutOfMemory rows row = Unit {0}
RefusesWagon (DuplicateWagon number) rows row = (number ≡ row.number) × (has_wagon rows number ≡ true)
RefusesWagon TooLarge rows row = ⊥
RefusesWagon (BadRosterRow n) rows row = ⊥
RefusesWagon ReadFailed rows row = ⊥

pub told_apart : (fault : RosterFault) → fault ≡ OutOfMemory → fault ≡ ReadFailed → ⊥
told_apart fault memory reader = cc (memory, reader)

-- a failure says nothing of the records
pub refuses_failure : (failure : RecordFault) (fault : RosterFault) (first : Option ℕ) (records : List Record) → fault ≡ roster_fault_of failure → Refuses (record { fault = fault; first = first }) records
refuses_failure rf.OutOfMemory fault first records e = rw e (tt, tt)
refuses_failure rf.ReadFailed fault first records e = rw e (tt, tt)
