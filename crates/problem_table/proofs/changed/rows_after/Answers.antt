use Rattle.cost_table.specs.TableRows.{all_rows}
use Rattle.problem_table.proofs.AllowedLemmas.{lasting_rows}
use Rattle.problem_table.proofs.ChangedLemmas.{same_rows}
use Rattle.problem_table.proofs.changed.rows_after.Goals as goal

pub shared_rows-requires-clause-rows : goal.shared_rows-requires-clause-rows
shared_rows-requires-clause-rows c =
    let earlier = c.args.earlier.now in
    rw (c.deref.ensures.value, c.rows-rows.ensures.rows)
    (same_rows c.args.tables.now earlier.at earlier.wagons earlier.orders c.args.problem.now.orders (all_rows c.args.made.now.cells) c.args.made.now.lasts.items (c.may_share.ensures c.if-may_share.true)
    (lasting_rows c.args.tables.now earlier c.args.made.now.cells c.args.made.now.lasts.items c.rows-rows.ensures.table c.requires.made))

pub moved_rows-requires-clause-rows : goal.moved_rows-requires-clause-rows
moved_rows-requires-clause-rows c =
    rw (c.deref-2.ensures.value, c.rows-rows.ensures.rows) (lasting_rows c.args.tables.now c.args.earlier.now c.args.made.now.cells c.args.made.now.lasts.items c.rows-rows.ensures.table c.requires.made)
