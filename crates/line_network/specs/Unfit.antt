-- Which field of a network's record isn't as its rule asks.
use Rattle.std.specs.Prelude.{ℕ, Bool, not, is_some, List, [], ◌∷◌, Option, codes}
use Rattle.std.specs.List.{find}
use Rattle.csv_records.specs.Fields.{Record, place_in}
use Rattle.line_network.specs.NetworkLimits.{max_line_km, max_line_minutes}
use Rattle.line_network.specs.Records.{length_in, way_in}
use Rattle.line_network.specs.declared.line_field.LineField.{LineField}
use Rattle.line_network.specs.declared.line_field.LineField.TheVariants.{From, To, Km, Minutes, Way}

-- its name in the header
abbrev pub field_name : LineField → List ℕ
field_name From = codes "from"
field_name To = codes "to"
field_name Km = codes "km"
field_name Minutes = codes "minutes"
field_name Way = codes "way"

-- whether a field is as its rule asks
abbrev pub fits : LineField → List ℕ → Bool
fits From text = is_some (place_in text)
fits To text = is_some (place_in text)
fits Km text = is_some (length_in max_line_km text)
fits Minutes text = is_some (length_in max_line_minutes text)
fits Way text = is_some (way_in text)

-- the fields of a record, each with its text, in the header's order; none where they are another number than five
abbrev pub named_fields : Record → List (LineField × List ℕ)
named_fields (from ∷ to ∷ km ∷ minutes ∷ way ∷ []) = (From, from) ∷ (To, to) ∷ (Km, km) ∷ (Minutes, minutes) ∷ (Way, way) ∷ []
named_fields fields = []

-- the first field that isn't as its rule asks, with its text
abbrev pub first_unfit : Record → Option (LineField × List ℕ)
first_unfit fields = find (λ named. not (fits named.0 named.1)) (named_fields fields)
