use Rattle.std.proofs.Common.{arith}
use Rattle.office_map.proofs.Loops.{fold_noted}
use Rattle.office_map.proofs.outside.note_rows.Goals as goal

pub loop-row-preserved : goal.loop-row-preserved
loop-row-preserved g c = fold_noted (g.T.Placed.with_place c.args.network.now) c.args.rows.now _ _ _ c.loop-row.row-index c.row-item.result c.row-item.result (omega arith) c.row-item.is c.loop-row.invariant (c.in_ok-note.ensures {u = tt})
