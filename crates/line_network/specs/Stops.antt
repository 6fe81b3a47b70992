-- Why a file isn't read as a network, and at which record.
use Rattle.std.specs.Prelude.{◌≡◌, ℕ, List, Option, IfErr, Result, Ok, Err}
use Rattle.csv_records.specs.Fields.{Record}
use Rattle.csv_records.specs.Reading.{Stops}
use Rattle.csv_records.specs.Stopping.{StopsAt}
use Rattle.csv_records.specs.declared.fault_at.FaultAt.{FaultAt}
use Rattle.faults.specs.ReadingFaults.{network_fault_of}
use Rattle.faults.specs.declared.faults.NetworkFault.{NetworkFault}
use Rattle.faults.specs.declared.faults.RecordFault.{RecordFault}
use Rattle.line_network.specs.Network.{NetworkValue}
use Rattle.line_network.specs.NetworkOf.{IsReadFrom}
use Rattle.line_network.specs.Reading.{is_failure, network_of}

-- the fault is the first of these records, unless memory or the reader failed
abbrev pub Refuses : NetworkFault → List Record → Type 0
Refuses fault rows = Stops is_failure fault (network_of rows)

-- the network that records say
abbrev pub IsSaidBy : NetworkValue → List Record → Type 0
IsSaidBy network rows = network_of rows ≡ Ok network

-- memory or the reader failed
abbrev pub IsFailureOf : RecordFault → NetworkFault → Type 0
IsFailureOf failure fault = fault ≡ network_fault_of failure

-- what is answered, without the record
abbrev pub plain : {A : Type 0} → Result A (FaultAt NetworkFault) → Result A NetworkFault
plain (Ok value) = Ok value
plain (Err stop) = Err stop.fault

-- What reading answers: a file's network or its first fault; and where it stopped, the record at which the fault is found: those
-- before it say a network, and with it there is this fault, whatever follows.
pub record IsReadTo (known : Option (List ℕ)) (result : Result NetworkValue (FaultAt NetworkFault)) : Type 0 where
  pub read : IsReadFrom known (plain result)
  pub stop : IfErr result (λ stop. StopsAt IsFailureOf IsSaidBy Refuses read.rows stop.fault stop.at)
