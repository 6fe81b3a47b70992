use Rattle.std.proofs.Common.{◌≡◌, ◌∙◌, ℕ, ap, sym}
use Rattle.std.specs.Prelude.{slice_index_or, []}
use Rattle.cost_table.specs.SharedRows.{rows_in}
use Rattle.cost_table.specs.TableRows.{row_at}
use Rattle.cost_table.proofs.TableRowLemmas.{row_at-table_with}
use Rattle.cost_table.proofs.table_cells.Cells.share_row.Goals as goal

pub returns : goal.returns
returns c = λ is. stored c.args.i ∙ (c.share_row.ensures is ∙ sym (stored c.args.k)) where
  stored : (i : ℕ) → row_at c.args.self.now i ≡ slice_index_or (rows_in c.self.inside.rows) i []
  stored i =
      sym (ap (λ t. row_at t i) c.self.view_is) ∙ row_at-table_with (rows_in c.self.inside.rows) c.self.inside.penalties.items c.self.inside.lacks.items i c.self.invariant.rows
