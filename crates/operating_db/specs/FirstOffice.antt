-- With which offices a book may begin.
use Rattle.std.specs.Prelude.{◌≤◌, ℕ}
use Rattle.fleet_rows.specs.Kept.{IsWagonRows}
use Rattle.fleet_rows.specs.Rows.{max_open_wagons, open_wagons}
use Rattle.operating_db.specs.Office.{Office}
use Rattle.operating_db.specs.Promises.{PromisesAgree}

-- At most 1,000 wagons, ascending by number; the promises agree; the open orders want at most 500 wagons in all; and one of
-- so many networks is in force.
pub record IsFirstOffice (networks : ℕ) (office : Office) : Type 0 where
  pub wagons : IsWagonRows office.wagons
  pub promises : PromisesAgree office
  pub few_open : open_wagons office.orders ≤ max_open_wagons
  pub from_one : 1 ≤ office.network
  pub in_force : office.network ≤ networks
