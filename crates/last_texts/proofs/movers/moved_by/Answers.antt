use Rattle.std.proofs.Common.{arith}
use Rattle.std.specs.BTreeMap.{get}
use Rattle.fleet_rows.specs.Kept.{compare_numbers}
use Rattle.last_texts.specs.Movers.{has_moved}
use Rattle.last_texts.proofs.MoverLemmas.{all_rows, row_more}
use Rattle.last_texts.proofs.movers.moved_by.Goals as goal

pub loop-row-preserved : goal.loop-row-preserved
loop-row-preserved c =
    row_more (has_moved (get compare_numbers c.args.movers.now) c.args.company) c.args.rows.now c.loop-row.row-index c.row-item.result c.loop-row.wagons.items _ c.has_moved-moved.result (omega arith)
    c.row-item.is c.has_moved-moved.ensures c.loop-row.invariant c.in_ok-push_where.ensures

pub returns : goal.returns
returns c =
    all_rows (has_moved (get compare_numbers c.args.movers.now) c.args.company) c.args.rows.now c.loop-row.row-index c.loop-row.wagons.items (omega arith) c.loop-row.invariant
