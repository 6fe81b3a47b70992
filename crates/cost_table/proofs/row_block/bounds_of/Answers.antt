use Rattle.cost_table.proofs.RowLemmas.{ends_in_range}
use Rattle.cost_table.proofs.row_block.bounds_of.Goals as goal

pub returns-clause-within : goal.returns-clause-within
returns-clause-within c = (ends_in_range c.args.limit 0 c.args.ends.now c.args.i c.requires.ends c.requires.wagon).1

pub returns-clause-ordered : goal.returns-clause-ordered
returns-clause-ordered c = rw c.start_of-start.ensures (ends_in_range c.args.limit 0 c.args.ends.now c.args.i c.requires.ends c.requires.wagon).0
