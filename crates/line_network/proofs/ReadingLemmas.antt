-- What reading answers gives what the records say, and where it stopped.
use Rattle.std.proofs.Common.{IfErr, List, Result, Ok, Err}
use Rattle.csv_records.proofs.Saying.{SaysSoFar-end}
use Rattle.csv_records.proofs.StopLemmas.{StopsAt-said}
use Rattle.csv_records.specs.Fields.{Record}
use Rattle.csv_records.specs.Reading.{Gives}
use Rattle.csv_records.specs.Requests.{IsOutcome}
use Rattle.csv_records.specs.Stopping.{StopsAt}
use Rattle.csv_records.specs.declared.fault_at.FaultAt.{FaultAt}
use Rattle.line_network.specs.Network.{NetworkValue}
use Rattle.line_network.specs.Reading.{is_failure, network_of, network_rule}
use Rattle.line_network.specs.Stops.{IsFailureOf, IsSaidBy, Refuses, plain}
use Rattle.line_network.specs.inner.Reading.{IsReadSoFar}
use Rattle.faults.specs.declared.faults.NetworkFault.{NetworkFault}

pub gives_from : (result : Result NetworkValue (FaultAt NetworkFault)) (rows : List Record) → IsOutcome IsReadSoFar (λ stop records. Refuses stop.fault records) result rows
    → Gives is_failure (plain result) (network_of rows)
gives_from (Ok network) rows h = SaysSoFar-end network_rule network rows h.so_far
gives_from (Err stop) rows h = h

pub stops_from : (result : Result NetworkValue (FaultAt NetworkFault)) (rows : List Record) → IfErr result (λ stop. StopsAt IsFailureOf IsReadSoFar Refuses rows stop.fault stop.at)
    → IfErr result (λ stop. StopsAt IsFailureOf IsSaidBy Refuses rows stop.fault stop.at)
stops_from (Ok network) rows h = tt
stops_from (Err stop) rows h =
    StopsAt-said IsReadSoFar IsSaidBy Refuses Refuses stop.fault stop.fault (λ network records is. (network, SaysSoFar-end network_rule network records is.so_far)) (λ records refused. refused)
    IsFailureOf IsFailureOf rows stop.at (λ failure is. is) h
