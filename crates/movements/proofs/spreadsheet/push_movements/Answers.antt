use Rattle.std.proofs.Common.{arith}
use Rattle.movements.proofs.Made.{AreRowsOf-more}
use Rattle.movements.specs.Fields.{AreMovementFields}
use Rattle.movements.proofs.spreadsheet.push_movements.Goals as goal

pub loop-movement-preserved : goal.loop-movement-preserved
loop-movement-preserved c =
    AreRowsOf-more (AreMovementFields c.args.places.now c.args.clock.now) c.args.movements.now c.args.rows.now.items c.loop-movement.rows.items c.push.new.self.items c.loop-movement.movement-index c.movement-item.result c.movement-item.result c.in_ok-movement_fields.field-0
    c.loop-movement.invariant (omega arith) c.movement-item.is c.in_ok-movement_fields.ensures c.in_ok-push.ensures.items
