use Rattle.std.proofs.Common.{◌≡◌, ℕ, List, take}
use Rattle.std.specs.BTreeMap.{get}
use Rattle.fleet_rows.specs.Kept.{compare_numbers}
use Rattle.operating_db.specs.FleetChange.{row_without}
use Rattle.operating_db.proofs.fleet_change.rows_without.Given as goal

-- the wagons so far have left
abbrev pub invariant-loop-number : goal.invariant-loop-number
invariant-loop-number l = (number : List ℕ) → get compare_numbers l.fleet number ≡ row_without (get compare_numbers l.initial.fleet) (take l.number-index l.leaving) number
