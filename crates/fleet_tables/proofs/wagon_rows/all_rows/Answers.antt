use Rattle.std.proofs.Common.{arith}
use Rattle.fleet_tables.specs.WagonRows.{IsRowOfWagon, titles_in}
use Rattle.text_tables.proofs.RowsBelow.{AreBelow-more}
use Rattle.fleet_tables.proofs.wagon_rows.all_rows.Goals as goal

pub loop-wagon-preserved : goal.loop-wagon-preserved
loop-wagon-preserved c =
    AreBelow-more (IsRowOfWagon c.args.form c.args.places.now c.args.clock.now) (titles_in c.args.form) c.args.wagons.now c.loop-wagon.rows.items c.push-in-loop-wagon.new.self.items c.loop-wagon.wagon-index c.wagon-item.result c.wagon-item.result c.in_ok-wagon_row.field-0
    c.loop-wagon.invariant (omega arith) c.wagon-item.is c.in_ok-wagon_row.ensures c.in_ok-push-2.ensures.items
