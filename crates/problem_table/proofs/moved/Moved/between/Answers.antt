use Rattle.std.proofs.Common.{arith}
use Rattle.problem_table.proofs.MovedSteps.{moved_gone, moved_kept}
use Rattle.problem_table.proofs.moved.Moved.between.Goals as goal
use Rattle.problem_table.proofs.moved.Moved.between.Goals.{then-is_order_at, else-is_order_at}

pub loop-one-preserved : goal.loop-one-preserved
loop-one-preserved c =
    let inv = c.loop-one.invariant in
    elim c.if-is_order_at.branch [
      | then-is_order_at w ↦ record {
        moved = rw (w.positions-is, w.kept-is, w.push_reserved.ensures.items) (moved_kept c.args.earlier.now c.args.orders.now c.loop-one.one-index c.one-item.result c.loop-one-test.true c.one-item.is c.loop-one.positions.items c.loop-one.kept inv.moved (c.is_order_at.ensures.within w.if-is_order_at.true) (c.is_order_at.ensures.same w.if-is_order_at.true));
        room = rw w.positions-is (omega (arith, w.push_reserved.ensures.len, w.push_reserved.ensures.capacity, inv.room));
      }
      | else-is_order_at w ↦ record {
        moved = rw (w.positions-is, w.kept-is, w.push_reserved-else-is_order_at.ensures.items) (moved_gone c.args.earlier.now c.args.orders.now c.loop-one.one-index c.one-item.result c.loop-one-test.true c.one-item.is c.loop-one.positions.items c.loop-one.kept inv.moved _ (omega (arith, c.requires)));
        room = rw w.positions-is (omega (arith, w.push_reserved-else-is_order_at.ensures.len, w.push_reserved-else-is_order_at.ensures.capacity, inv.room));
      }
    ]

pub returns-clause-steady : goal.returns-clause-steady
returns-clause-steady c = rw c.deref.ensures.value at c.steady_count-steady.ensures
