use Rattle.cost_table.proofs.RowLemmas.{too_large_by_lacks}
use Rattle.cost_table.proofs.rows.are_too_large.Goals as goal

pub returns-then-lacks-gt-MAX_TABLE_ORDERS : goal.returns-then-lacks-gt-MAX_TABLE_ORDERS
returns-then-lacks-gt-MAX_TABLE_ORDERS c = too_large_by_lacks c.args.rows.now c.args.penalties.now c.args.lacks.now c.requires c.if-lacks-gt-MAX_TABLE_ORDERS.true
