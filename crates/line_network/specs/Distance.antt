-- The distance between two places: the kilometres and minutes of the walk with the fewest kilometres, and with the
-- fewest minutes among those.
use Rattle.std.specs.Prelude.{◌≡◌, ℕ, ◌≤◌, List}
use Rattle.line_network.specs.declared.line.Line.{Line}
use Rattle.line_network.specs.Network.{NetworkValue}
use Rattle.line_network.specs.Walk.{IsWalk, km_of, minutes_of}

-- of two pairs of kilometres and minutes: kilometres compared first, then minutes
abbrev pub AtMost : ℕ × ℕ → ℕ × ℕ → Type 0
AtMost p q = (p.0 ≤ q.0) × (p.0 ≡ q.0 → p.1 ≤ q.1)

-- the kilometres and minutes of one walk, below which no walk lies
pub record IsDistance (net : NetworkValue) (a b : List ℕ) (distance : ℕ × ℕ) : Type 0 where
  pub walk : List Line
  pub leads : IsWalk net a walk b
  pub km : km_of walk ≡ distance.0
  pub minutes : minutes_of walk ≡ distance.1
  pub least : (other : List Line) → IsWalk net a other b → AtMost distance (km_of other, minutes_of other)
