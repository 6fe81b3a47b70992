use Rattle.std.proofs.Common.{arith}
use Rattle.plan_reasons.proofs.PairFields.{joined_next}
use Rattle.plan_reasons.proofs.failed_line.push_joined.Goals as goal

pub loop-k-preserved : goal.loop-k-preserved
loop-k-preserved c = joined_next c.args.style c.args.classes.now c.loop-k.k c.index-classes-k.result _ _ _ (omega arith) c.index-classes-k.is c.loop-k.invariant c.in_ok-push_item.ensures
