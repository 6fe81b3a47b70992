-- A place's name in a cell, and where the place lies.
use Rattle.std.specs.Prelude.{ℕ, ◌&&◌, ◌==◌, if◌then◌else◌, nat_le, List, [], ◌∷◌, ◌++◌, chars, codes, encode_utf8, length, Option, Some, None}
use Rattle.std.specs.List.{flat_map}
use Rattle.place_names.specs.Names.{known_of}
use Rattle.place_names.specs.declared.named_place.Coordinates.{Coordinates}
use Rattle.place_names.specs.declared.named_place.NamedPlace.{NamedPlace}

abbrev pub coordinates_in : Option NamedPlace → Option Coordinates
coordinates_in None = None
coordinates_in (Some one) = one.coordinates

-- where a place lies, if that is said
abbrev pub coordinates_of : List NamedPlace → (place : List ℕ) → Option Coordinates
coordinates_of named place = coordinates_in (known_of named place)

-- A character in a cell. The ampersand, the two brackets and the backslash mean something else there, and two numbers that no
-- character has, U+FFFE and U+FFFF, would spoil the whole label.
abbrev pub escaped_character : ℕ → List ℕ
escaped_character c =
    if c == 38 then codes "&amp;"
    else if c == 60 then codes "&lt;"
    else if c == 62 then codes "&gt;"
    else if c == 92 then 92 ∷ 92 ∷ []
    else if nat_le 65534 c && nat_le c 65535 then codes "?"
    else encode_utf8 c

-- a name in a cell
abbrev pub escaped : (name : List ℕ) → List ℕ
escaped name = flat_map escaped_character (chars name)

-- a name after a place's code, if the place has one
abbrev pub name_words : (name : List ℕ) → List ℕ
name_words name = if length name == 0 then [] else codes " " ++ escaped name
