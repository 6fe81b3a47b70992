use Rattle.std.proofs.Common.{arith}
use Rattle.movements.proofs.Made.{AreRowsOf-more}
use Rattle.movements.specs.Fields.{AreSilentFields}
use Rattle.movements.proofs.spreadsheet.push_silent.Goals as goal

pub loop-wagon-preserved : goal.loop-wagon-preserved
loop-wagon-preserved c =
    AreRowsOf-more (AreSilentFields c.args.places.now c.args.clock.now) c.args.silent.now c.args.rows.now.items c.loop-wagon.rows.items c.push.new.self.items c.loop-wagon.wagon-index c.wagon-item.result c.wagon-item.result c.in_ok-silent_fields.field-0
    c.loop-wagon.invariant (omega arith) c.wagon-item.is c.in_ok-silent_fields.ensures c.in_ok-push.ensures.items
