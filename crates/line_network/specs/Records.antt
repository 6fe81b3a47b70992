-- What the fields of a record of a network say.
use Rattle.std.specs.Prelude.{ℕ, Bool, false, ◌&&◌, ◌||◌, if◌then◌else◌, nat_lt, List, [], ◌∷◌, Option, Some, None, codes}
use Rattle.csv_records.specs.Fields.{Record, ◌>>=◌, is_text, whole_number_in, place_in}
use Rattle.line_network.specs.NetworkLimits.{max_line_km, max_line_minutes}
use Rattle.line_network.specs.declared.line_record.LineRecord.{LineRecord}
use Rattle.line_network.specs.declared.line_record.Way.{Way}
use Rattle.line_network.specs.declared.line_record.Way.TheVariants.{One, Both}

-- whether a record is the header
abbrev pub is_header : Record → Bool
is_header (from ∷ to ∷ km ∷ minutes ∷ way ∷ []) =
    is_text (codes "from") from && is_text (codes "to") to && is_text (codes "km") km
    && is_text (codes "minutes") minutes && is_text (codes "way") way
is_header row = false

-- a whole number from 1 to a limit
abbrev pub length_in : (most : ℕ) → List ℕ → Option ℕ
length_in most field = whole_number_in field >>= within_limit
  where
    within_limit : ℕ → Option ℕ
    within_limit number = if nat_lt number 1 || nat_lt most number then None else Some number

abbrev pub way_in : List ℕ → Option Way
way_in field = if is_text (codes "one") field then Some One else if is_text (codes "both") field then Some Both else None

-- the line that five fields say, if each is as its rule asks
abbrev pub line_in : List ℕ → List ℕ → List ℕ → List ℕ → List ℕ → Option LineRecord
line_in from to km minutes way = do
  origin ← place_in from
  end ← place_in to
  kilometres ← length_in max_line_km km
  duration ← length_in max_line_minutes minutes
  ways ← way_in way
  Some (record { from = origin; to = end; km = kilometres; minutes = duration; way = ways })

-- what a record says, if it has five fields that say a line
abbrev pub line_record : Record → Option LineRecord
line_record (from ∷ to ∷ km ∷ minutes ∷ way ∷ []) = line_in from to km minutes way
line_record row = None
