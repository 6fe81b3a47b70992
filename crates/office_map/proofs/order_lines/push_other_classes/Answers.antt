use Rattle.std.proofs.Common.{arith}
use Rattle.office_map.specs.Orders.{or_class}
use Rattle.office_map.proofs.Loops.{item_pushed}
use Rattle.office_map.proofs.order_lines.push_other_classes.Goals as goal

pub loop-class-preserved : goal.loop-class-preserved
loop-class-preserved c = item_pushed or_class c.args.classes.now _ _ _ c.loop-class.class-index c.class-item.result c.class-item.result (omega arith) c.class-item.is c.loop-class.invariant (c.in_ok-push_or_class.ensures {u = tt})
