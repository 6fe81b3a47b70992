use Rattle.std.proofs.Common.{arith}
use Rattle.text_tables.proofs.RowsBelow.{AreBelow-more}
use Rattle.movements.specs.Rows.{IsMovementRow, movement_titles}
use Rattle.movements.proofs.table.movement_rows.Goals as goal

pub loop-movement-preserved : goal.loop-movement-preserved
loop-movement-preserved c =
    AreBelow-more (IsMovementRow c.args.places.now c.args.clock.now) movement_titles c.args.movements.now c.loop-movement.rows.items c.push-in-loop-movement.new.self.items c.loop-movement.movement-index c.movement-item.result c.movement-item.result c.in_ok-movement_row.field-0
    c.loop-movement.invariant (omega arith) c.movement-item.is c.in_ok-movement_row.ensures c.in_ok-push-2.ensures.items
