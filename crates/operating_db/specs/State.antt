-- The state of an office, and what it keeps.
use Rattle.std.specs.Prelude.{◌≤◌, ℕ, List}
use Rattle.wagons_and_orders.specs.declared.wagon_row.WagonRow.{WagonRow}
use Rattle.wagons_and_orders.specs.OrderRow.{OrderRowValue}
use Rattle.operating_db.specs.Promises.{PromisesAgree}
use Rattle.line_network.specs.NetworkCount.{max_networks}
use Rattle.operating_db.specs.Office.{Office}

-- an office, and how many networks there are
pub record StateValue : Type 0 where
  pub office : Office
  pub networks : ℕ

-- a state by its parts
abbrev pub state_of : List WagonRow → List OrderRowValue → (network networks : ℕ) → StateValue
state_of wagons orders network networks = record { office = record { wagons = wagons; orders = orders; network = network }; networks = networks }

-- the promises agree, and one of the networks, 8 at most, is in force
pub record IsState (state : StateValue) : Type 0 where
  pub promises : PromisesAgree state.office
  pub from_one : 1 ≤ state.office.network
  pub in_force : state.office.network ≤ state.networks
  pub few : state.networks ≤ max_networks
