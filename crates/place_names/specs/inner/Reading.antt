-- What reading places keeps from record to record, and why a place is not added.
use Rattle.std.specs.Prelude.{◌≡◌, ◌+◌, List, length, Result}
use Rattle.csv_records.specs.Fields.{Record}
use Rattle.csv_records.specs.Reading.{SaysSoFar, Stops}
use Rattle.faults.specs.declared.faults.RecordFault.{RecordFault}
use Rattle.faults.specs.declared.faults.RecordFault.TheVariants as rf
use Rattle.place_names.specs.Faults.{places_fault_of}
use Rattle.place_names.specs.Reading.{is_failure, places_rule}
use Rattle.place_names.specs.declared.named_place.NamedPlace.{NamedPlace}
use Rattle.place_names.specs.declared.places_fault.PlacesFault.{PlacesFault}
use Rattle.place_names.specs.declared.places_fault.PlacesFault.TheVariants.{OutOfMemory, ReadFailed}

-- These records, the header among them, say these places, whatever follows them.
pub record AreReadSoFar (places : List NamedPlace) (records : List Record) : Type 0 where
  pub so_far : SaysSoFar places_rule places records
  pub counted : length places + 1 ≡ length records

-- a failure says nothing of the records
pub stops_failure : (failure : RecordFault) (fault : PlacesFault) (answer : Result (List NamedPlace) PlacesFault) → fault ≡ places_fault_of failure → Stops is_failure fault answer
stops_failure rf.OutOfMemory fault answer e = rw e tt
stops_failure rf.ReadFailed fault answer e = rw e tt

pub told_apart : (fault : PlacesFault) → fault ≡ OutOfMemory → fault ≡ ReadFailed → ⊥
told_apart fault memory reader = cc (memory, reader)
