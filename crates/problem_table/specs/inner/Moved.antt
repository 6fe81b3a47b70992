-- The orders of an earlier problem in a later one.
use Rattle.std.specs.Prelude.{◌≡◌, ◌<◌, ◌≤◌, ℕ, Bool, true, false, [], if◌then◌else◌, nat_lt, List, length, drop, All, Option, Some, None, slice_get, slice_index}
use Rattle.std.specs.List.{filter_map}
use Rattle.wagons_and_orders.specs.declared.free_wagon.FreeWagon.{FreeWagon}
use Rattle.wagons_and_orders.specs.Wanted.{WantedOrder}
use Rattle.line_network.specs.Network.{NetworkValue}
use Rattle.cost_table.specs.Problem.{ProblemValue}
use Rattle.cost_table.specs.declared.table_rows.TableRows.{TableRows}
use Rattle.problem_table.specs.declared.changed.Moving.{Moving}
use Rattle.problem_table.specs.declared.moved.Moved.{Moved}
use Rattle.problem_table.specs.inner.AllowedRows.{IsLastingRow}
use Rattle.problem_table.specs.inner.Goals.{AreGoalsOf}

-- the same orders, whatever they lack
pub record HaveSameTexts (one other : List WantedOrder) : Type 0 where
  pub count : length one ≡ length other
  pub each : (k : ℕ) (a b : WantedOrder) → slice_get one k ≡ Some a → slice_get other k ≡ Some b → b.order ≡ a.order

-- where earlier orders stand among later ones, the first of which they are; one that is gone has a position behind all
pub record AreMoved (earlier orders : List WantedOrder) (positions : List ℕ) (kept : ℕ) : Type 0 where
  pub count : length positions ≡ length earlier
  pub within : kept ≤ length orders
  pub each :
      (i : ℕ) (one there : WantedOrder) → slice_get earlier i ≡ Some one → slice_index positions i < kept → slice_get orders (slice_index positions i) ≡ Some there → there.order ≡ one.order
  pub from : (k : ℕ) → k < kept → (i : ℕ) × (i < length earlier) × (slice_index positions i ≡ k)
  pub gone : (i : ℕ) → i < length earlier → kept ≤ slice_index positions i → length orders < slice_index positions i
  pub ascend : (i j : ℕ) → i < j → j < length earlier → slice_index positions i < kept → slice_index positions j < kept → slice_index positions i < slice_index positions j

-- rows beside the block of earlier ones, or with no block yet to share
abbrev pub HaveBlock : Bool → (earlier rows : TableRows) → Type 0
HaveBlock shares earlier rows = (shares ≡ true → rows.shared.value ≡ earlier.shared.value) × (shares ≡ false → rows.shared.value ≡ [])

-- the first orders stand where they stood
abbrev pub AreSteady : (positions : List ℕ) → (kept steady : ℕ) → Type 0
AreSteady positions kept steady = (i : ℕ) → i < steady → (slice_index positions i ≡ i) × (i < kept)

-- a cell at the new position of its order, where that stays
abbrev pub moved_cell : (positions : List ℕ) → (kept : ℕ) → ℕ × ℕ → Option (ℕ × ℕ)
moved_cell positions kept cell = if nat_lt (slice_index positions cell.0) kept then Some (slice_index positions cell.0, cell.1) else None

abbrev pub moved_cells : (positions : List ℕ) → (kept : ℕ) → List (ℕ × ℕ) → List (ℕ × ℕ)
moved_cells positions kept row = filter_map (moved_cell positions kept) row

-- a wagon's row over earlier orders, which are among those of the problem
pub record GoesAlong (problem : ProblemValue) (net : NetworkValue) (wagon : FreeWagon) (moved : Moved) (row : List (ℕ × ℕ)) (last : ℕ) : Type 0 where
  pub earlier : List WantedOrder
  pub are : AreMoved earlier problem.orders moved.positions.items moved.kept
  pub steady : AreSteady moved.positions.items moved.kept moved.steady
  pub is : IsLastingRow net problem.at wagon earlier row last

-- goals that are kept are those of the orders that came
abbrev pub AreCome : NetworkValue → List WantedOrder → Moving → Type 0
AreCome net orders moving = All (AreGoalsOf net moving.moved.kept (drop moving.moved.kept orders)) moving.came.items
