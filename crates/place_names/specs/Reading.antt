-- The places that the records of a file name, or the first fault.
use Rattle.std.specs.Prelude.{ℕ, ◌+◌, Bool, true, false, nat_eq, if◌then◌else◌, List, [], ◌∷◌, ◌++◌, length, Result, Ok, Err}
use Rattle.std.specs.Cmp.Lexicographic.{pointwise}
use Rattle.std.specs.List.{list_any}
use Rattle.csv_records.specs.Fields.{Record}
use Rattle.csv_records.specs.Reading.{ReadingRule, value_of}
use Rattle.place_names.specs.Limits.{max_named_places}
use Rattle.place_names.specs.Records.{is_header, place_record}
use Rattle.place_names.specs.declared.named_place.NamedPlace.{NamedPlace}
use Rattle.place_names.specs.declared.places_fault.PlacesFault.{PlacesFault}
use Rattle.place_names.specs.declared.places_fault.PlacesFault.TheVariants.{OutOfMemory, BadRow, DuplicatePlace, TooManyPlaces, ReadFailed}

-- whether two records are of one place
abbrev pub have_one_place : NamedPlace → NamedPlace → Bool
have_one_place a b = pointwise nat_eq a.place b.place

-- whether one of the records is of this place
abbrev pub has_place : List NamedPlace → (place : List ℕ) → Bool
has_place places place = list_any (λ named. pointwise nat_eq place named.place) places

-- one more place, which none of them is. Its record stands behind the header and those of the others, and is counted so.
abbrev pub with_place : List NamedPlace → NamedPlace → Result (List NamedPlace) PlacesFault
with_place places named = if has_place places named.place then Err (DuplicatePlace (length places + 2)) else Ok (places ++ named ∷ [])

-- memory or the reader failed
abbrev pub is_failure : PlacesFault → Bool
is_failure OutOfMemory = true
is_failure ReadFailed = true
is_failure (BadRow n) = false
is_failure (DuplicatePlace n) = false
is_failure TooManyPlaces = false

-- how places are collected from the records of a file
abbrev pub places_rule : ReadingRule NamedPlace (List NamedPlace) PlacesFault
places_rule = record {
  is_header = is_header;
  says = place_record;
  most = max_named_places;
  none_read = [];
  with_one = with_place;
  bad_record = BadRow;
  too_many = TooManyPlaces;
  is_failure = is_failure;
}

-- the places that the records of a file name, in their order
abbrev pub places_of : List Record → Result (List NamedPlace) PlacesFault
places_of records = value_of places_rule records
