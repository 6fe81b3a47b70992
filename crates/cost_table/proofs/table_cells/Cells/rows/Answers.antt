use Rattle.std.proofs.Common.{◌∙◌, ap, sym}
use Rattle.cost_table.specs.SharedRows.{rows_in}
use Rattle.cost_table.specs.TableRows.{all_rows}
use Rattle.cost_table.proofs.TableRowLemmas.{all_rows-table_with}
use Rattle.cost_table.proofs.table_cells.Cells.rows.Goals as goal

pub returns-clause-rows : goal.returns-clause-rows
returns-clause-rows c =
    sym (all_rows-table_with (rows_in c.self.inside.rows) c.self.inside.penalties.items c.self.inside.lacks.items c.self.invariant.rows) ∙ ap all_rows c.self.view_is
