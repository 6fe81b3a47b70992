-- The network of a file's records in the subject's own words, apart from how it is read.
use Rattle.std.specs.Prelude.{◌≡◌, ℕ, ◌≤◌, List, [], ◌∷◌, length, Option, IfSome, IfOk, Result, Ok, fold}
use Rattle.std.specs.List.{flat_map}
use Rattle.csv_records.specs.Fields.{Record}
use Rattle.csv_records.specs.Files.{AreBelowHeader, AreRecordsOf}
use Rattle.csv_records.specs.Reading.{Gives}
use Rattle.line_network.specs.Network.{NetworkValue}
use Rattle.line_network.specs.NetworkLimits.{max_places}
use Rattle.line_network.specs.Reading.{is_failure, lines_of, max_line_records, network_of, with_place}
use Rattle.line_network.specs.Records.{is_header, line_record}
use Rattle.line_network.specs.declared.line_record.LineRecord.{LineRecord}
use Rattle.faults.specs.declared.faults.NetworkFault.{NetworkFault}

abbrev pub ends_of : LineRecord → List (List ℕ)
ends_of r = r.from ∷ r.to ∷ []

-- the places that records name, as first seen
abbrev pub places_of : List LineRecord → List (List ℕ)
places_of records = fold with_place [] (flat_map ends_of records)

-- The rows are the header and below it records of lines, and the network has their places as first seen and
-- exactly their lines, in their order.
pub record IsNetworkOf (rows : List Record) (network : NetworkValue) : Type 0 where
  pub records : List LineRecord
  pub file : AreBelowHeader is_header line_record max_line_records rows records
  pub places : network.places ≡ places_of records
  pub few_places : length network.places ≤ max_places
  pub lines : network.lines ≡ flat_map (lines_of network.places) records

-- What reading answers, where the bytes of the file are known or not: it has the rows of those bytes; it answers
-- what they say or their first fault, unless memory or the reader failed; a network that it answers is theirs;
-- and where they have a network, that is answered.
pub record IsReadFrom (known : Option (List ℕ)) (result : Result NetworkValue NetworkFault) : Type 0 where
  pub rows : List Record
  pub all_rows : IfSome known (λ bytes. AreRecordsOf bytes rows)
  pub first_fault : Gives is_failure result (network_of rows)
  pub exact : IfOk result (IsNetworkOf rows)
  pub complete : (network : NetworkValue) → IsNetworkOf rows network → Gives is_failure result (Ok network)
