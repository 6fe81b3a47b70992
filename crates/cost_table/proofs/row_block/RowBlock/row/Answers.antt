use Rattle.std.proofs.Common.{arith}
use Rattle.cost_table.proofs.RowLemmas.{length-rows_of}
use Rattle.cost_table.proofs.row_block.RowBlock.row.Goals as goal

pub row_of-requires-clause-wagon : goal.row_of-requires-clause-wagon
row_of-requires-clause-wagon c = grind (arith, length-rows_of)
