use Rattle.checkpoint.proofs.Complete.{complete, exact}
use Rattle.checkpoint.proofs.laws.checkpoints_are_read.Goals as goal

pub returns : goal.returns
returns c = λ networks lines office. (exact networks lines office, complete networks lines office)
