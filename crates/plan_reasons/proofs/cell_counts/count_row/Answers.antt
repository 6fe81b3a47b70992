use Rattle.cost_table.proofs.PartLemmas.{first_is_row, rest_is_row}
use Rattle.plan_reasons.proofs.CellCounts.{few_after, more_twice}
use Rattle.plan_reasons.proofs.cell_counts.count_row.Goals as goal

pub count_cells-requires-clause-row : goal.count_cells-requires-clause-row
count_cells-requires-clause-row c = first_is_row _ 0 c.args.row.first.now c.args.row.rest.now c.requires.row

pub count_cells-requires-2-clause-row : goal.count_cells-requires-2-clause-row
count_cells-requires-2-clause-row c = rest_is_row _ 0 c.args.row.first.now c.args.row.rest.now c.requires.row

pub count_cells-requires-2-clause-limit : goal.count_cells-requires-2-clause-limit
count_cells-requires-2-clause-limit c = few_after _ c.args.row.first.now c.args.limits.now c.args.counts.now _ (first_is_row _ 0 c.args.row.first.now c.args.row.rest.now c.requires.row) c.requires.limit c.count_cells.ensures

pub returns : goal.returns
returns c = more_twice c.args.row.first.now c.args.row.rest.now c.args.limits.now c.args.counts.now _ _ c.count_cells.ensures c.count_cells-2.ensures
