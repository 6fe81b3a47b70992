-- Complementary slackness: which pairs cost exactly what their prices say.
use Rattle.std.specs.Prelude.{◌≡◌, ◌+◌, ◌<◌, ℕ, List, All, length, slice_index}
use Rattle.cost_table.specs.Table.{Table}
use Rattle.cost_table.specs.Plan.{pair_cost}

-- A pair whose order's price v is its cost and its wagon's price u together, all in km.
pub record IsTight (t : Table) (u v : List ℕ) (pair : ℕ × ℕ) : Type 0 where
  pub wagon : pair.0 < length u
  pub order : pair.1 < length v
  pub prices : slice_index v pair.1 ≡ pair_cost t pair + slice_index u pair.0

abbrev pub AreTight : Table → (u v : List ℕ) → List (ℕ × ℕ) → Type 0
AreTight t u v pairs = All (IsTight t u v) pairs
