-- Walks in a network, and their kilometres and minutes.
use Rattle.std.specs.Prelude.{◌≡◌, ℕ, List, [], ◌∷◌, Some, Contains, sum_by}
use Rattle.line_network.specs.declared.line.Line.{Line}
use Rattle.line_network.specs.Network.{NetworkValue, place_index}

-- lines that begin each where the one before ended, from the place of one number to that of another
abbrev pub IsPath : List Line → ℕ → List Line → ℕ → Type 0
IsPath lines a [] b = a ≡ b
IsPath lines a (l ∷ ls) b = Contains lines l × (l.from ≡ a) × IsPath lines l.to ls b

-- a walk in a network from a place to a place; that of no lines leads from each place of the network to itself
pub record IsWalk (net : NetworkValue) (a : List ℕ) (walk : List Line) (b : List ℕ) : Type 0 where
  pub first : ℕ
  pub last : ℕ
  pub begins : place_index net.places a ≡ Some first
  pub ends : place_index net.places b ≡ Some last
  pub path : IsPath net.lines first walk last

abbrev pub km_of : List Line → ℕ
km_of walk = sum_by (λ l. l.km) walk

abbrev pub minutes_of : List Line → ℕ
minutes_of walk = sum_by (λ l. l.minutes) walk
