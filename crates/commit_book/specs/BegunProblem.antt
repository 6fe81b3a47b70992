-- A problem that a book has begun, as contracts see it.
use Rattle.std.specs.Prelude.{◌≡◌, List, Some}
use Rattle.cost_table.specs.Table.{Table}
use Rattle.line_network.specs.Network.{NetworkValue}
use Rattle.line_network.specs.Networks.{network_at}
use Rattle.price_checker.specs.Snap.{SnapValue}
use Rattle.problem_table.specs.Allowed.{IsTableOf}

-- the snapshot of a version, the networks of the book, and a table
pub record BegunValue : Type 0 where
  pub snap : SnapValue
  pub networks : List NetworkValue
  pub table : Table

-- the table is that of the snapshot's problem over the network in force in its version
pub record IsBegunProblem (begun : BegunValue) : Type 0 where
  pub network : NetworkValue
  pub in_force : network_at begun.networks begun.snap.network ≡ Some network
  pub table : IsTableOf network begun.snap.problem begun.table
