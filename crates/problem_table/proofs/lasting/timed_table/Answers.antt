use Rattle.problem_table.proofs.AllowedLemmas.{lasting_ascend}
use Rattle.problem_table.proofs.Made.{timed_lasting, timed_lasts, timed_now}
use Rattle.problem_table.proofs.lasting.timed_table.Goals as goal

pub timed-requires-clause-ascend : goal.timed-requires-clause-ascend
timed-requires-clause-ascend c = lasting_ascend c.args.tables.now c.args.problem.now.at c.args.problem.now.wagons c.args.problem.now.orders _ c.args.lasts.items c.requires.rows

pub returns-clause-table : goal.returns-clause-table
returns-clause-table c = timed_now c.args.tables.now c.args.problem.now _ c.args.lasts.items c.requires.rows c.timed.result c.timed.ensures.cells

pub returns-clause-lasts : goal.returns-clause-lasts
returns-clause-lasts c = timed_lasts c.args.tables.now c.args.problem.now _ c.args.lasts.items c.requires.rows c.timed.result c.timed.ensures.cells c.timed.ensures.least

pub returns-clause-by_wagon : goal.returns-clause-by_wagon
returns-clause-by_wagon c = timed_lasting c.args.tables.now c.args.problem.now _ c.args.lasts.items c.requires.rows c.timed.result c.timed.ensures.cells c.timed.ensures.lasts
