-- The network that the records of a file say, or the first fault.
use Rattle.std.specs.Prelude.{ℕ, Bool, true, false, if◌then◌else◌, nat_lt, List, [], ◌∷◌, ◌++◌, length, Result, Ok, Err}
use Rattle.std.specs.List.{list_any, position_or_len}
use Rattle.csv_records.specs.Fields.{Record}
use Rattle.csv_records.specs.Reading.{ReadingRule, value_of}
use Rattle.line_network.specs.Network.{NetworkValue, are_one_place}
use Rattle.line_network.specs.NetworkLimits.{max_places}
use Rattle.line_network.specs.Records.{is_header, line_record}
use Rattle.line_network.specs.declared.line.Line.{Line}
use Rattle.line_network.specs.declared.line_record.LineRecord.{LineRecord}
use Rattle.line_network.specs.declared.line_record.Way.{Way}
use Rattle.line_network.specs.declared.line_record.Way.TheVariants.{One, Both}
use Rattle.faults.specs.declared.faults.NetworkFault.{NetworkFault}
use Rattle.faults.specs.declared.faults.NetworkFault.TheVariants.{OutOfMemory, BadRow, TooManyPlaces, TooManyLines, ReadFailed}

-- the most records of lines, below the header
abbrev pub max_line_records : ℕ
max_line_records = 20000

abbrev pub no_network : NetworkValue
no_network = record { places = []; lines = [] }

-- the places after one is named: a new place stands last
abbrev pub with_place : List (List ℕ) → List ℕ → List (List ℕ)
with_place places place = if list_any (are_one_place place) places then places else places ++ place ∷ []

-- the places after a record is read, which names where its line begins before where it ends
abbrev pub with_ends : List (List ℕ) → LineRecord → List (List ℕ)
with_ends places r = with_place (with_place places r.from) r.to

abbrev pub number_of : List (List ℕ) → List ℕ → ℕ
number_of places place = position_or_len (are_one_place place) places

abbrev pub line_of : ℕ → ℕ → LineRecord → Line
line_of from to r = record { from = from; to = to; km = r.km; minutes = r.minutes }

-- the lines of a record between places of these numbers: the line, and after it the line back where it is run both ways
abbrev pub lines_by_way : ℕ → ℕ → LineRecord → Way → List Line
lines_by_way from to r One = line_of from to r ∷ []
lines_by_way from to r Both = line_of from to r ∷ line_of to from r ∷ []

abbrev pub lines_between : ℕ → ℕ → LineRecord → List Line
lines_between from to r = lines_by_way from to r r.way

abbrev pub lines_of : List (List ℕ) → LineRecord → List Line
lines_of places r = lines_between (number_of places r.from) (number_of places r.to) r

abbrev pub after_record : NetworkValue → LineRecord → NetworkValue
after_record network r = record { places = with_ends network.places r; lines = network.lines ++ lines_of (with_ends network.places r) r }

-- a network with one more record, if its places are not too many
abbrev pub with_record : NetworkValue → LineRecord → Result NetworkValue NetworkFault
with_record network r =
    if nat_lt max_places (length (with_ends network.places r)) then Err TooManyPlaces
    else Ok (after_record network r)

-- memory or the reader failed
abbrev pub is_failure : NetworkFault → Bool
is_failure OutOfMemory = true
is_failure ReadFailed = true
is_failure (BadRow n) = false
is_failure TooManyPlaces = false
is_failure TooManyLines = false

-- how a network is collected from the records of a file
abbrev pub network_rule : ReadingRule LineRecord NetworkValue NetworkFault
network_rule = record {
  is_header = is_header;
  says = line_record;
  most = max_line_records;
  none_read = no_network;
  with_one = with_record;
  bad_record = BadRow;
  too_many = TooManyLines;
  is_failure = is_failure;
}

-- the network that the records of a file say
abbrev pub network_of : List Record → Result NetworkValue NetworkFault
network_of rows = value_of network_rule rows
