use Rattle.std.specs.BTreeMap.{get}
use Rattle.fleet_rows.specs.Kept.{compare_numbers}
use Rattle.operating_db.proofs.FleetChange.{put_more}
use Rattle.operating_db.proofs.fleet_change.put_rows.Goals as goal

pub loop-row-preserved : goal.loop-row-preserved
loop-row-preserved c =
    put_more c.args.rows.now c.loop-row.row-index c.row-item.result c.requires.ascending c.loop-row-test.true c.row-item.is (get compare_numbers c.args.fleet.now) (get compare_numbers c.loop-row.fleet) (get compare_numbers c.insert.new.self) c.loop-row.invariant
    (λ number. c.in_ok-insert.ensures.updates.0 number)
