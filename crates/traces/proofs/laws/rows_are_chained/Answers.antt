use Rattle.traces.proofs.Chains.{chained}
use Rattle.traces.proofs.laws.rows_are_chained.Goals as goal

pub returns : goal.returns
returns c = chained
