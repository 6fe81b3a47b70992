-- Which field of a roster's record isn't as its rule asks.
use Rattle.std.specs.Prelude.{ℕ, Bool, not, is_some, List, [], ◌∷◌, Option, codes}
use Rattle.std.specs.List.{find}
use Rattle.csv_records.specs.Fields.{Record, place_in}
use Rattle.fleet_rows.specs.Records.{class_in, load_in, moment_in, number_in}
use Rattle.fleet_rows.specs.declared.roster_field.RosterField.{RosterField}
use Rattle.fleet_rows.specs.declared.roster_field.RosterField.TheVariants.{Wagon, Class, Load, Status, Place, Moment}
use Rattle.wagons_and_orders.specs.StatusWords.{status_of_word}

-- its name in the header
abbrev pub field_name : RosterField → List ℕ
field_name Wagon = codes "wagon"
field_name Class = codes "class"
field_name Load = codes "load"
field_name Status = codes "status"
field_name Place = codes "place"
field_name Moment = codes "moment"

-- whether a text is the word of a status, wherever the wagon is and whenever it was heard of
abbrev pub is_status : List ℕ → Bool
is_status word = is_some (status_of_word word [] 0)

-- whether a field is as its rule asks
abbrev pub fits : RosterField → List ℕ → Bool
fits Wagon text = is_some (number_in text)
fits Class text = is_some (class_in text)
fits Load text = is_some (load_in text)
fits Status text = is_status text
fits Place text = is_some (place_in text)
fits Moment text = is_some (moment_in text)

-- the fields of a record, each with its text, in the header's order; none where they are another number than six
abbrev pub named_fields : Record → List (RosterField × List ℕ)
named_fields (wagon ∷ class ∷ load ∷ status ∷ place ∷ moment ∷ []) =
    (Wagon, wagon) ∷ (Class, class) ∷ (Load, load) ∷ (Status, status) ∷ (Place, place) ∷ (Moment, moment) ∷ []
named_fields fields = []

-- the first field that isn't as its rule asks, with its text
abbrev pub first_unfit : Record → Option (RosterField × List ℕ)
first_unfit fields = find (λ named. not (fits named.0 named.1)) (named_fields fields)
