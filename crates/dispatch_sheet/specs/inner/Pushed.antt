-- The wagons of a list, as they are added to a text.
use Rattle.std.specs.Prelude.{ℕ, List, [], ◌∷◌, ◌++◌, Bool, true, if◌then◌else◌}

-- the wagons of a list, each behind a comma, or behind a space where none stands earlier
abbrev pub listed : (earlier : Bool) → List (List ℕ) → List ℕ
listed earlier [] = []
listed earlier (wagon ∷ wagons) = (if earlier then 44 else 32) ∷ (wagon ++ listed true wagons)
