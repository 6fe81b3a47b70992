-- The table of a problem over a network: which cells it has.
use Rattle.std.specs.Prelude.{◌≡◌, ◌+◌, ◌*◌, ◌≤◌, ◌↔◌, max, ℕ, length, Some, slice_get}
use Rattle.move_messages.specs.Order.{Order}
use Rattle.wagons_and_orders.specs.declared.free_wagon.FreeWagon.{FreeWagon}
use Rattle.wagons_and_orders.specs.Suits.{Suits}
use Rattle.wagons_and_orders.specs.Wanted.{WantedOrder}
use Rattle.line_network.specs.Network.{NetworkValue}
use Rattle.line_network.specs.Distance.{IsDistance}
use Rattle.cost_table.specs.Problem.{ProblemValue, penalties_of, lacks_of}
use Rattle.cost_table.specs.Table.{Table, cost_at, wagon_count}

-- A wagon suits an order and reaches its place in time, at this many kilometres: it starts at the moment, or when
-- it is ready, and is there at the latest moment or before.
pub record Reaches (net : NetworkValue) (at : ℕ) (wagon : FreeWagon) (order : Order) (km : ℕ) : Type 0 where
  pub suits : Suits wagon order
  pub minutes : ℕ
  pub distance : IsDistance net wagon.place order.place (km, minutes)
  pub in_time : max wagon.ready at + 60 * minutes ≤ order.latest

-- The table of a problem over a network: a cell exactly where the wagon reaches the order, with its kilometres;
-- each order's penalty and lack.
pub record IsTableOf (net : NetworkValue) (problem : ProblemValue) (t : Table) : Type 0 where
  pub wagons : wagon_count t ≡ length problem.wagons
  pub penalties : t.penalties ≡ penalties_of problem.orders
  pub lacks : t.lacks ≡ lacks_of problem.orders
  pub cells :
      (i j km : ℕ) (wagon : FreeWagon) (wanted : WantedOrder) → slice_get problem.wagons i ≡ Some wagon → slice_get problem.orders j ≡ Some wanted
      → (cost_at t i j ≡ Some km) ↔ Reaches net problem.at wagon wanted.order km
