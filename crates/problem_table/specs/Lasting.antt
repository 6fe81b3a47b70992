-- The table of a problem, and up to which moment each wagon's cells stay as they are.
use Rattle.std.specs.Prelude.{◌≡◌, ◌≤◌, ◌↔◌, ℕ, All, List, length, Some, slice_get, slice_index}
use Rattle.wagons_and_orders.specs.declared.free_wagon.FreeWagon.{FreeWagon}
use Rattle.wagons_and_orders.specs.Wanted.{WantedOrder}
use Rattle.line_network.specs.Network.{NetworkValue}
use Rattle.cost_table.specs.Problem.{ProblemValue, penalties_of, lacks_of}
use Rattle.cost_table.specs.Table.{Table, cost_at, wagon_count}
use Rattle.problem_table.specs.Allowed.{IsTableOf, Reaches}

-- the table of a problem over a network at its moment and at each later one up to this
abbrev pub IsTableUntil : NetworkValue → ProblemValue → (until : ℕ) → Table → Type 0
IsTableUntil net problem until t = (m : ℕ) → problem.at ≤ m → m ≤ until → IsTableOf net (record problem { at = m }) t

-- The table of a problem over a network that has a last moment for each wagon: at each moment from the problem's up to
-- that one, the wagon's cells are those of the table of that moment.
pub record IsLastingTable (net : NetworkValue) (problem : ProblemValue) (t : Table) (lasts : List ℕ) : Type 0 where
  pub wagons : wagon_count t ≡ length problem.wagons
  pub moments : length lasts ≡ length problem.wagons
  pub within : All (λ last. problem.at ≤ last) lasts
  pub penalties : t.penalties ≡ penalties_of problem.orders
  pub lacks : t.lacks ≡ lacks_of problem.orders
  pub cells :
      (i j km : ℕ) (wagon : FreeWagon) (wanted : WantedOrder) → slice_get problem.wagons i ≡ Some wagon → slice_get problem.orders j ≡ Some wanted
      → (m : ℕ) → problem.at ≤ m → m ≤ slice_index lasts i → (cost_at t i j ≡ Some km) ↔ Reaches net m wagon wanted.order km
