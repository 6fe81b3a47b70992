use Rattle.std.proofs.Common.{arith}
use Rattle.cost_table.proofs.RowLemmas.{length-rows_of}
use Rattle.cost_table.proofs.row_block.RowBlock.len.Goals as goal

pub returns-clause-value : goal.returns-clause-value
returns-clause-value c = grind (arith, length-rows_of)
