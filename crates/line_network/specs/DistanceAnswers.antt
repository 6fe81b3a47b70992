-- What is answered of two places.
use Rattle.std.specs.Prelude.{◌≡◌, ℕ, List, Option, Some, None}
use Rattle.line_network.specs.declared.line.Line.{Line}
use Rattle.line_network.specs.Network.{NetworkValue, place_index}
use Rattle.line_network.specs.Walk.{IsWalk}
use Rattle.line_network.specs.Distance.{IsDistance}

-- the most kilometres, and the most minutes, of a distance: a line of the greatest length to each place
abbrev pub max_distance : ℕ
max_distance = 20000000

-- no walk leads from one place to the other
abbrev pub HasNoWalk : NetworkValue → List ℕ → List ℕ → Type 0
HasNoWalk net a b = (walk : List Line) → IsWalk net a walk b → ⊥

-- what is to be answered of two places: their distance, none where no walk leads
abbrev pub IsAnswered : NetworkValue → List ℕ → List ℕ → Option (ℕ × ℕ) → Type 0
IsAnswered net a b None = HasNoWalk net a b
IsAnswered net a b (Some distance) = IsDistance net a b distance

-- the same of the places that have these numbers
abbrev pub AreNumbersAnswered : NetworkValue → (from to : ℕ) → Option (ℕ × ℕ) → Type 0
AreNumbersAnswered net from to answer =
    (a b : List ℕ) → place_index net.places a ≡ Some from → place_index net.places b ≡ Some to → IsAnswered net a b answer
