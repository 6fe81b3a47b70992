use Rattle.std.proofs.Common.{◌∙◌, ap, subst, sym}
use Rattle.cost_table.specs.SharedRows.{rows_in}
use Rattle.cost_table.specs.TableRows.{row_at}
use Rattle.cost_table.specs.Table.{order_count}
use Rattle.cost_table.specs.TableLimits.{IsRow, IsTable}
use Rattle.cost_table.proofs.TableRowLemmas.{row_at-table_with, row_is}
use Rattle.cost_table.proofs.table_cells.Cells.row.Goals as goal

pub returns-clause-row : goal.returns-clause-row
returns-clause-row c =
    c.row.ensures
    ∙ (sym (row_at-table_with (rows_in c.self.inside.rows) c.self.inside.penalties.items c.self.inside.lacks.items c.args.i c.self.invariant.rows)
    ∙ ap (λ t. row_at t c.args.i) c.self.view_is)

pub returns-clause-cells : goal.returns-clause-cells
returns-clause-cells c =
    let legal : IsTable c.args.self.now = subst IsTable c.self.view_is c.self.invariant.table in
    subst (IsRow (order_count c.args.self.now) 0) (sym (returns-clause-row c)) (row_is c.args.self.now c.args.i legal)
