use Rattle.std.proofs.Common.{refl}
use Rattle.cost_table.proofs.table_cells.Cells.from_rows.Goals as goal

pub returns-clause-numbers : goal.returns-clause-numbers
returns-clause-numbers c = λ i j. rw c.in_ok-of_lists.ensures refl
