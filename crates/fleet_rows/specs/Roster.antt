-- What a roster is.
use Rattle.std.specs.Prelude.{◌≡◌, ℕ, ◌≤◌, false, List, length, None, All}
use Rattle.std.specs.List.Sorted.{IsStrictlySortedBy}
use Rattle.move_messages.specs.MaxLoad.{max_load}
use Rattle.wagons_and_orders.specs.declared.status.Status.{Status}
use Rattle.wagons_and_orders.specs.declared.status.Status.TheVariants.{Empty}
use Rattle.wagons_and_orders.specs.declared.wagon_row.WagonRow.{WagonRow}
use Rattle.fleet_rows.specs.Kept.{max_roster_wagons, by_number}

-- an empty wagon has been ready since this moment
abbrev pub IsReadySince : ℕ → Status → Type 0
IsReadySince moment (Empty place ready) = ready ≡ moment
IsReadySince moment status = Unit {0}

-- the row of a wagon that nobody holds and that is promised to nobody
pub record IsRosterRow (row : WagonRow) : Type 0 where
  pub few_kg : row.load_limit ≤ max_load
  pub not_held : row.held ≡ false
  pub not_promised : row.promise ≡ None
  pub ready : IsReadySince row.last row.status

-- rows of few wagons, each number above the one before
pub record IsRoster (rows : List WagonRow) : Type 0 where
  pub few : length rows ≤ max_roster_wagons
  pub ascending : IsStrictlySortedBy by_number rows
  pub each : All IsRosterRow rows
