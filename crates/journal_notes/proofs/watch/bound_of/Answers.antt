use Rattle.std.proofs.Common.{arith}
use Rattle.journal_notes.proofs.WatchRows.{calm_more}
use Rattle.journal_notes.proofs.watch.bound_of.Goals as goal

pub loop-row-preserved : goal.loop-row-preserved
loop-row-preserved c =
    calm_more c.args.newest c.loop-row.bound c.lowered-bound.result c.args.rows.now c.loop-row.row-index c.row-item.result (omega arith) c.row-item.is c.lowered-bound.ensures.lower c.loop-row.invariant c.lowered-bound.ensures.under
