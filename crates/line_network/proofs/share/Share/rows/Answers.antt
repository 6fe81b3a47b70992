use Rattle.line_network.proofs.Sharing.{IsFirstShare-skip, IsFirstShare-push}
use Rattle.line_network.proofs.share.Share.rows.Goals as goal

pub loop-origin-preserved-then-origin-workers : goal.loop-origin-preserved-then-origin-workers
loop-origin-preserved-then-origin-workers g c = IsFirstShare-skip _ _ _ _ _ _ c.loop-origin.invariant c.if-origin-workers.true

pub loop-origin-preserved : goal.loop-origin-preserved
loop-origin-preserved g c = rw c.in_ok-push.ensures.items (IsFirstShare-push _ _ _ _ _ _ c.loop-origin.invariant _ c.if-origin-workers.false (rw c.through.ensures at c.in_ok-row.ensures))
