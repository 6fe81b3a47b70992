-- What reading a network keeps from record to record, and why a place is not added.
use Rattle.std.specs.Prelude.{◌≡◌, ℕ, ◌+◌, ◌*◌, ◌<◌, ◌≤◌, IfErr, List, length, Result}
use Rattle.csv_records.specs.Fields.{Record}
use Rattle.csv_records.specs.Reading.{Gives, SaysSoFar, Stops}
use Rattle.csv_records.specs.Stopping.{StopsAt}
use Rattle.csv_records.specs.declared.fault_at.FaultAt.{FaultAt}
use Rattle.faults.specs.ReadingFaults.{network_fault_of}
use Rattle.faults.specs.declared.faults.RecordFault.{RecordFault}
use Rattle.faults.specs.declared.faults.RecordFault.TheVariants as rf
use Rattle.line_network.specs.Network.{NetworkValue}
use Rattle.line_network.specs.NetworkLimits.{max_line_km, max_line_minutes, max_places}
use Rattle.line_network.specs.Reading.{is_failure, network_of, network_rule}
use Rattle.line_network.specs.Stops.{IsFailureOf, IsSaidBy, Refuses, plain}
use Rattle.line_network.specs.declared.line_record.LineRecord.{LineRecord}
use Rattle.faults.specs.declared.faults.NetworkFault.{NetworkFault}
use Rattle.faults.specs.declared.faults.NetworkFault.TheVariants.{OutOfMemory, BadRow, TooManyPlaces, TooManyLines, ReadFailed}

-- These records, the header among them, say this network, whatever follows them.
pub record IsReadSoFar (network : NetworkValue) (records : List Record) : Type 0 where
  pub so_far : SaysSoFar network_rule network records
  pub few : length network.lines + 2 ≤ 2 * length records

-- what reading the records that are left answers: their network or their first fault, and then the record at which it is found
abbrev pub IsReadOff : (are_left : List Record → Type 0) → Result NetworkValue (FaultAt NetworkFault) → Type 0
IsReadOff are_left result = (all : List Record) × are_left all × Gives is_failure (plain result) (network_of all)
    × IfErr result (λ stop. StopsAt IsFailureOf IsSaidBy Refuses all stop.fault stop.at)

-- the kilometres and minutes of a record are within the limit
pub record HasLengths (r : LineRecord) : Type 0 where
  pub some_km : 1 ≤ r.km
  pub most_km : r.km ≤ max_line_km
  pub some_minutes : 1 ≤ r.minutes
  pub most_minutes : r.minutes ≤ max_line_minutes

-- why a place was not added
abbrev pub RefusesPlace : NetworkFault → List (List ℕ) → Type 0
RefusesPlace OutOfMemory places = Unit {0}
RefusesPlace TooManyPlaces places = max_places < length places
RefusesPlace (BadRow n) places = ⊥
RefusesPlace TooManyLines places = ⊥
RefusesPlace ReadFailed places = ⊥

-- a failure says nothing of the records
pub stops_failure : (failure : RecordFault) (fault : NetworkFault) (answer : Result NetworkValue NetworkFault) → fault ≡ network_fault_of failure → Stops is_failure fault answer
stops_failure rf.OutOfMemory fault answer e = rw e tt
stops_failure rf.ReadFailed fault answer e = rw e tt

pub told_apart : (fault : NetworkFault) → fault ≡ OutOfMemory → fault ≡ ReadFailed → ⊥
told_apart fault memory reader = cc (memory, reader)
