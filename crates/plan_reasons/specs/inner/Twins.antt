-- Pairs of which what plans cost more is the same.
use Rattle.std.specs.Prelude.{◌≡◌, ◌<◌, ℕ, List, Contains}
use Rattle.cost_table.specs.Table.{Table, wagon_count}
use Rattle.cost_table.specs.TableRows.{row_at}
use Rattle.plan_reasons.specs.declared.fit.Fit.{Fit}

-- they are of one order, and of wagons with the same row
pub record AreTwins (t : Table) (one other : ℕ × ℕ) : Type 0 where
  pub order : one.1 ≡ other.1
  pub first : one.0 < wagon_count t
  pub second : other.0 < wagon_count t
  pub row : row_at t one.0 ≡ row_at t other.0

-- so much was found of such a pair
pub record IsOfTwin (t : Table) (found : List Fit) (pair : ℕ × ℕ) (more : ℕ) : Type 0 where
  pub fit : Fit
  pub there : Contains found fit
  pub twins : AreTwins t fit.pair pair
  pub found_more : fit.more ≡ more
