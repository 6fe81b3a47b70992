-- The names of places for the option `--places`, by the bytes of their file.
use Rattle.std.specs.Prelude.{◌≡◌, ℕ, List, [], Option, Some, None}
use Rattle.place_names.specs.declared.named_place.NamedPlace.{NamedPlace}
use Rattle.office_files.specs.InFile.{ArePlacesIn, BytesAt, unknown}

-- the places that the file says, where one is given
abbrev pub AreNamesAt : BytesAt → (path : Option (List ℕ)) → (names : Option (List NamedPlace)) → Type 0
AreNamesAt bytes_at None names = names ≡ None
AreNamesAt bytes_at (Some path) names = (places : List NamedPlace) × ArePlacesIn (bytes_at path) places × (names ≡ Some places)

-- the same; none where no file is given
abbrev pub ArePlacesAt : BytesAt → (path : Option (List ℕ)) → List NamedPlace → Type 0
ArePlacesAt bytes_at None places = places ≡ []
ArePlacesAt bytes_at (Some path) places = ArePlacesIn (bytes_at path) places

-- the same of files whose bytes no clause knows
abbrev pub AreNamesFor : (path : Option (List ℕ)) → (names : Option (List NamedPlace)) → Type 0
AreNamesFor path names = AreNamesAt unknown path names

abbrev pub ArePlacesFor : (path : Option (List ℕ)) → List NamedPlace → Type 0
ArePlacesFor path places = ArePlacesAt unknown path places
