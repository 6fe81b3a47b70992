-- How the type of the wagons' rows keeps which wagons are free, and where the empty ones stand.
use Rattle.std.specs.Prelude.{◌≡◌, ℕ, Bool, List, map}
use Rattle.wagons_and_orders.specs.declared.wagon_row.WagonRow.{WagonRow}
use Rattle.fleet_rows.specs.FreeWagons.{is_free}
use Rattle.fleet_rows.specs.Kept.{IsWagonRows}
use Rattle.fleet_rows.specs.inner.EmptyList.{AreListed}

-- rows, with whether the wagon of each is free, and a list of the empty ones that nobody holds
pub record AreStored (rows : List WagonRow) (are_free : List Bool) (empty : List ℕ) (room : ℕ) : Type 0 where
  pub kept : IsWagonRows rows
  pub free : are_free ≡ map is_free rows
  pub listed : AreListed rows empty room
