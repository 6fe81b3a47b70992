use Rattle.std.proofs.Common.{◌∙◌, ◌++◌, ◌∷◌, [], ap, sym, arith}
use Rattle.wagons_and_orders.specs.Free.{free_of}
use Rattle.operating_db.proofs.Picked.{passed, picked}
use Rattle.operating_db.proofs.lists.free_wagons.Goals as goal
use Rattle.operating_db.proofs.lists.free_wagons.Goals.{in-Some, in_default}

pub loop-index-preserved : goal.loop-index-preserved
loop-index-preserved c = elim c.match-free_if.branch [
  | in-Some w ↦ record {
    free = rw w.wagons-is (w.push_reserved.ensures.items ∙ ap (λ items. items ++ w.in-Some.wagon ∷ []) c.loop-index.invariant.free ∙ sym (picked free_of c.args.rows.now c.loop-index.index c.index-rows-index.result c.loop-index-test.true c.index-rows-index.is w.in-Some.wagon (sym c.free_if.ensures ∙ w.in-Some.is)));
    room = rw w.wagons-is (omega (arith, w.push_reserved.ensures.len, w.push_reserved.ensures.capacity, c.loop-index.invariant.room));
  }
  | in_default w ↦ record {
    free = rw w.wagons-is (c.loop-index.invariant.free ∙ sym (passed free_of c.args.rows.now c.loop-index.index c.index-rows-index.result c.loop-index-test.true c.index-rows-index.is (sym c.free_if.ensures ∙ w.in_default.is)));
    room = rw w.wagons-is (omega (arith, c.loop-index.invariant.room));
  }
]
