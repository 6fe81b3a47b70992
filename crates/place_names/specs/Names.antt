-- What is known of a place by its code, and its name.
use Rattle.std.specs.Prelude.{ℕ, ◌==◌, if◌then◌else◌, nat_eq, List, [], ◌∷◌, length, Option, Some, None}
use Rattle.std.specs.Cmp.Lexicographic.{pointwise}
use Rattle.std.specs.List.{find}
use Rattle.place_names.specs.declared.named_place.NamedPlace.{NamedPlace}

-- what is known of a place, if anything is
abbrev pub known_of : List NamedPlace → (place : List ℕ) → Option NamedPlace
known_of places place = find (λ named. pointwise nat_eq place named.place) places

abbrev pub name_of_known : Option NamedPlace → List ℕ
name_of_known None = []
name_of_known (Some named) = named.name

-- a place's name; nothing where it has none
abbrev pub name_of : List NamedPlace → (place : List ℕ) → List ℕ
name_of places place = name_of_known (known_of places place)

-- a name after a space, if it is one
abbrev pub name_word : (name : List ℕ) → List ℕ
name_word name = if length name == 0 then [] else 32 ∷ name
