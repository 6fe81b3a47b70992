use Rattle.std.proofs.Common.{take, map}
use Rattle.cost_table.specs.TableRows.{cells_of}
use Rattle.cost_table.specs.RowBlocks.{HoldRows}
use Rattle.cost_table.proofs.rows.flatten.Given as goal

abbrev pub invariant-loop-row : goal.invariant-loop-row
invariant-loop-row l = HoldRows l.entries.items l.ends.items (map (λ row. cells_of 0 row.items) (take l.row-index l.rows))
