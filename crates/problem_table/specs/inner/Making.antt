-- The rows of a problem's table while they are made.
use Rattle.std.specs.Prelude.{◌≡◌, ◌≤◌, ◌++◌, ◌∷◌, [], ℕ, All, List, take}
use Rattle.line_network.specs.Network.{NetworkValue}
use Rattle.cost_table.specs.Problem.{ProblemValue}
use Rattle.cost_table.specs.SharedRows.{HasPlaces, rows_in}
use Rattle.cost_table.specs.declared.table_rows.TableRows.{TableRows}
use Rattle.problem_table.specs.declared.making.Making.{Making}
use Rattle.problem_table.specs.inner.AllowedRows.{AreLastingRows, IsLastingRow}
use Rattle.problem_table.specs.inner.Goals.{AreGoalsOf}
use Rattle.wagons_and_orders.specs.declared.free_wagon.FreeWagon.{FreeWagon}

-- the rows of the first wagons, with the goals of some classes
pub record AreMade (net : NetworkValue) (problem : ProblemValue) (count : ℕ) (making : Making) : Type 0 where
  pub placed : HasPlaces making.rows
  pub rows : AreLastingRows net problem.at (take count problem.wagons) problem.orders (rows_in making.rows) making.lasts.items
  pub classes : All (AreGoalsOf net 0 problem.orders) making.classes.items

-- one row more, and its last moment
pub record HasMore (old new : TableRows) (lasts lasts' : List ℕ) (row : List (ℕ × ℕ)) (last : ℕ) : Type 0 where
  pub shared : new.shared.value ≡ old.shared.value
  pub placed : HasPlaces new
  pub rows : rows_in new ≡ rows_in old ++ row ∷ []
  pub moments : lasts' ≡ lasts ++ last ∷ []

abbrev pub AddsRowUntil : (old new : Making) → (row : List (ℕ × ℕ)) → (last : ℕ) → Type 0
AddsRowUntil old new row last = HasMore old.rows new.rows old.lasts.items new.lasts.items row last

-- one row more, which is a wagon's
pub record HasWagonMore (net : NetworkValue) (problem : ProblemValue) (wagon : FreeWagon) (old new : TableRows) (lasts lasts' : List ℕ) : Type 0 where
  pub row : List (ℕ × ℕ)
  pub last : ℕ
  pub more : HasMore old new lasts lasts' row last
  pub within : problem.at ≤ last
  pub is : IsLastingRow net problem.at wagon problem.orders row last

abbrev pub AddsWagon : NetworkValue → ProblemValue → FreeWagon → (old new : Making) → Type 0
AddsWagon net problem wagon old new = HasWagonMore net problem wagon old.rows new.rows old.lasts.items new.lasts.items
