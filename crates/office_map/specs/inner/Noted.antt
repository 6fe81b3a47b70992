-- A list with one place more, where there is one.
use Rattle.std.specs.Prelude.{ℕ, List, [], ◌∷◌, ◌++◌, Option, Some, None}

abbrev pub with_place_at : List (List ℕ) → Option (List ℕ) → List (List ℕ)
with_place_at places None = places
with_place_at places (Some place) = places ++ place ∷ []
