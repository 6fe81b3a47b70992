-- What the fields of a record of a file of places say.
use Rattle.std.specs.Prelude.{ℕ, Bool, false, ◌&&◌, ◌==◌, if◌then◌else◌, List, [], ◌∷◌, length, Option, Some, None, codes}
use Rattle.csv_records.specs.Fields.{Record, ◌>>=◌, is_text, place_in, text_in}
use Rattle.place_names.specs.Texts.{is_decimal, is_place_name}
use Rattle.place_names.specs.declared.named_place.NamedPlace.{NamedPlace}
use Rattle.place_names.specs.declared.named_place.Coordinates.{Coordinates}

-- whether a record is the header
abbrev pub is_header : Record → Bool
is_header (place ∷ name ∷ x ∷ y ∷ []) =
    is_text (codes "place") place && is_text (codes "name") name && is_text (codes "x") x && is_text (codes "y") y
is_header fields = false

abbrev pub name_of_text : List ℕ → Option (List ℕ)
name_of_text text = if is_place_name text then Some text else None

-- UTF-8 of at most 60 bytes without a control character
abbrev pub name_in : List ℕ → Option (List ℕ)
name_in field = text_in field >>= name_of_text

abbrev pub decimal_of_text : List ℕ → Option (List ℕ)
decimal_of_text text = if is_decimal text then Some text else None

abbrev pub decimal_in : List ℕ → Option (List ℕ)
decimal_in field = text_in field >>= decimal_of_text

-- two decimal numbers
abbrev pub pair_in : (x y : List ℕ) → Option Coordinates
pair_in x y = do
  first ← decimal_in x
  second ← decimal_in y
  Some (record { x = first; y = second })

abbrev pub some_coordinates : Coordinates → Option (Option Coordinates)
some_coordinates coordinates = Some (Some coordinates)

-- the coordinates of a place, or none where both fields are empty
abbrev pub coordinates_in : (x y : List ℕ) → Option (Option Coordinates)
coordinates_in x y = if (length x == 0) && (length y == 0) then Some None else (pair_in x y >>= some_coordinates)

-- what four fields say, if each is as its rule asks
abbrev pub place_said : (place name x y : List ℕ) → Option NamedPlace
place_said place name x y = do
  code ← place_in place
  text ← name_in name
  at ← coordinates_in x y
  Some (record { place = code; name = text; coordinates = at })

-- what a record says, if it has four fields that say a place
abbrev pub place_record : Record → Option NamedPlace
place_record (place ∷ name ∷ x ∷ y ∷ []) = place_said place name x y
place_record fields = None
