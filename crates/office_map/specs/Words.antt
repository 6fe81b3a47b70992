-- Words of a map.
use Rattle.std.specs.Prelude.{ℕ, List, [], ◌∷◌, ◌++◌, codes}

-- a name in quotes
abbrev pub quoted : List ℕ → List ℕ
quoted name = 34 ∷ [] ++ name ++ 34 ∷ []

-- the backslash and the letter n, by which a label goes on in a new line
abbrev pub label_break : List ℕ
label_break = 92 ∷ 110 ∷ []

-- the colours of free wagons, of promised wagons, and of orders that lack wagons
abbrev pub free_colour : List ℕ
free_colour = codes " BGCOLOR=\"darkseagreen1\""

abbrev pub promised_colour : List ℕ
promised_colour = codes " BGCOLOR=\"lightskyblue1\""

abbrev pub waiting_colour : List ℕ
waiting_colour = codes " BGCOLOR=\"orange\""
