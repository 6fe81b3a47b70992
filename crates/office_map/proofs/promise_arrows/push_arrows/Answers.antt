use Rattle.office_map.specs.Promises.{arrow_at}
use Rattle.office_map.proofs.Loops.{range_pushed}
use Rattle.office_map.proofs.promise_arrows.push_arrows.Goals as goal

pub loop-i-preserved : goal.loop-i-preserved
loop-i-preserved c = range_pushed (arrow_at c.args.arrows.now) _ _ _ c.loop-i.i c.loop-i.invariant (c.in_ok-push_arrow_at.ensures {u = tt})
