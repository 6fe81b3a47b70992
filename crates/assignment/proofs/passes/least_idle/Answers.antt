use Rattle.std.proofs.Common.{refl}
use Rattle.assignment.proofs.Passing.{is_chosen, least_more}
use Rattle.assignment.proofs.passes.least_idle.Goals as goal

pub loop-g-preserved : goal.loop-g-preserved
loop-g-preserved c = least_more c.args.costs.now c.args.idle.now c.loop-g.least c.loop-g.g _ c.choose.result c.min-least.result c.loop-g.invariant refl (is_chosen _ _ _ c.choose.ensures) c.min-least.ensures
