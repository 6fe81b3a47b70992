use Rattle.std.proofs.Common.{length}
use Rattle.sessions.proofs.feed_lines.FeedLines.+submit_pending.Given as goal

abbrev pub decreases-submit_pending : goal.decreases-submit_pending
decreases-submit_pending g l = length l.lines.now.pending.items
