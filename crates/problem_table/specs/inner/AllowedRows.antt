-- Rows of cells while they are put one after another.
use Rattle.std.specs.Prelude.{◌≡◌, ◌≤◌, ◌↔◌, ℕ, List, [], ◌∷◌, ◌++◌, All, length, Some, slice_get, slice_index, slice_index_or}
use Rattle.wagons_and_orders.specs.declared.free_wagon.FreeWagon.{FreeWagon}
use Rattle.wagons_and_orders.specs.Wanted.{WantedOrder}
use Rattle.line_network.specs.Network.{NetworkValue}
use Rattle.problem_table.specs.Allowed.{Reaches}
use Rattle.cost_table.specs.TableLimits.{IsRow}
use Rattle.cost_table.specs.Problem.{penalties_of, lacks_of}
use Rattle.cost_table.specs.Table.{Table}
use Rattle.cost_table.specs.TableRows.{cost_in, table_with}

-- A row of cells: the orders of which R holds at a cost, ascending, each with that cost.
pub record IsRowOf (R : WantedOrder → ℕ → Type 0) (orders : List WantedOrder) (row : List (ℕ × ℕ)) : Type 0 where
  pub ascends : IsRow (length orders) 0 row
  pub cells : (j km : ℕ) (wanted : WantedOrder) → slice_get orders j ≡ Some wanted → (cost_in row j ≡ Some km) ↔ R wanted km

-- such a row lies behind the entries
pub record AddsRow (R : WantedOrder → ℕ → Type 0) (orders : List WantedOrder) (old new : List (ℕ × ℕ)) : Type 0 where
  pub row : List (ℕ × ℕ)
  pub behind : new ≡ old ++ row
  pub is : IsRowOf R orders row

-- at each moment from one up to another the wagon's row lies behind the entries
abbrev pub AddsRowUntil : NetworkValue → (at : ℕ) → FreeWagon → List WantedOrder → (old new : List (ℕ × ℕ)) → (until : ℕ) → Type 0
AddsRowUntil net at wagon orders old new until = (m : ℕ) → at ≤ m → m ≤ until → AddsRow (λ wanted. Reaches net m wagon wanted.order) orders old new

-- a row of cells that is a wagon's at each moment up to its last
abbrev pub IsLastingRow : NetworkValue → (at : ℕ) → FreeWagon → List WantedOrder → List (ℕ × ℕ) → (last : ℕ) → Type 0
IsLastingRow net at wagon orders row last = (m : ℕ) → at ≤ m → m ≤ last → IsRowOf (λ wanted. Reaches net m wagon wanted.order) orders row

-- the table of these rows, with the orders' penalties and lacks
abbrev pub table_of_rows : List (List (ℕ × ℕ)) → List WantedOrder → Table
table_of_rows rows orders = table_with rows (penalties_of orders) (lacks_of orders)

-- such a row for each wagon, none of which is past at this moment
pub record AreLastingRows (net : NetworkValue) (at : ℕ) (wagons : List FreeWagon) (orders : List WantedOrder) (rows : List (List (ℕ × ℕ))) (lasts : List ℕ) : Type 0 where
  pub count : length rows ≡ length wagons
  pub moments : length lasts ≡ length wagons
  pub within : All (λ last. at ≤ last) lasts
  pub each : (i : ℕ) (wagon : FreeWagon) → slice_get wagons i ≡ Some wagon → IsLastingRow net at wagon orders (slice_index_or rows i []) (slice_index lasts i)

-- one row more, which is a wagon's
pub record AddsLastingRow (net : NetworkValue) (at : ℕ) (wagon : FreeWagon) (orders : List WantedOrder) (old new : List (List (ℕ × ℕ))) (lasts lasts' : List ℕ) : Type 0 where
  pub row : List (ℕ × ℕ)
  pub last : ℕ
  pub rows : new ≡ old ++ row ∷ []
  pub moments : lasts' ≡ lasts ++ last ∷ []
  pub within : at ≤ last
  pub is : IsLastingRow net at wagon orders row last
