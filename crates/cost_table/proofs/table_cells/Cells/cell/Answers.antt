use Rattle.std.proofs.Common.{◌∙◌, ap, sym}
use Rattle.cost_table.specs.TableRows.{cost_in}
use Rattle.cost_table.proofs.PartLemmas.{first_is_row, rest_is_row}
use Rattle.cost_table.proofs.TableLemmas.{look_up_within}
use Rattle.cost_table.proofs.TableRowLemmas.{cost_by_row}
use Rattle.cost_table.proofs.Search.{row_ascends}
use Rattle.cost_table.proofs.table_cells.Cells.cell.Goals as goal

pub cost_in_row-requires-clause-first : goal.cost_in_row-requires-clause-first
cost_in_row-requires-clause-first c = row_ascends _ 0 c.row.result.first.now (first_is_row _ 0 c.row.result.first.now c.row.result.rest.now c.row.ensures.cells)

pub cost_in_row-requires-clause-rest : goal.cost_in_row-requires-clause-rest
cost_in_row-requires-clause-rest c = row_ascends _ 0 c.row.result.rest.now (rest_is_row _ 0 c.row.result.first.now c.row.result.rest.now c.row.ensures.cells)

pub returns-clause-value : goal.returns-clause-value
returns-clause-value c =
    c.cost_in_row.ensures ∙ (ap (λ row. cost_in row c.args.j) c.row.ensures.row ∙ sym (cost_by_row c.args.self.now c.args.i c.args.j))

pub returns-clause-in_range : goal.returns-clause-in_range
returns-clause-in_range c = (look_up_within c.args.self.now c.args.i c.args.j c.cost_in_row.result c.wagons.ensures.table (returns-clause-value c)).0

pub returns-clause-limit : goal.returns-clause-limit
returns-clause-limit c = (look_up_within c.args.self.now c.args.i c.args.j c.cost_in_row.result c.wagons.ensures.table (returns-clause-value c)).1
