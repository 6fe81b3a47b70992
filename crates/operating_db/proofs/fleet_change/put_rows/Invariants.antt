use Rattle.std.proofs.Common.{take}
use Rattle.std.specs.BTreeMap.{get}
use Rattle.fleet_rows.specs.Kept.{compare_numbers}
use Rattle.operating_db.specs.inner.FleetMaps.{ArePut}
use Rattle.operating_db.proofs.fleet_change.put_rows.Given as goal

-- the rows so far are put
abbrev pub invariant-loop-row : goal.invariant-loop-row
invariant-loop-row l = ArePut (take l.row-index l.rows) (get compare_numbers l.initial.fleet) (get compare_numbers l.fleet)
