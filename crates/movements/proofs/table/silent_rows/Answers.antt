use Rattle.std.proofs.Common.{arith}
use Rattle.text_tables.proofs.RowsBelow.{AreBelow-more}
use Rattle.movements.specs.Rows.{IsSilentRow, silent_titles}
use Rattle.movements.proofs.table.silent_rows.Goals as goal

pub loop-wagon-preserved : goal.loop-wagon-preserved
loop-wagon-preserved c =
    AreBelow-more (IsSilentRow c.args.places.now c.args.clock.now) silent_titles c.args.silent.now c.loop-wagon.rows.items c.push-in-loop-wagon.new.self.items c.loop-wagon.wagon-index c.wagon-item.result c.wagon-item.result c.in_ok-silent_row.field-0
    c.loop-wagon.invariant (omega arith) c.wagon-item.is c.in_ok-silent_row.ensures c.in_ok-push-2.ensures.items
