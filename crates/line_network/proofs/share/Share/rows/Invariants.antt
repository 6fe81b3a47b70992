use Rattle.line_network.proofs.Sharing.{IsFirstShare}
use Rattle.line_network.proofs.share.Share.rows.Given as goal

abbrev pub invariant-loop-origin : goal.invariant-loop-origin
invariant-loop-origin g l = IsFirstShare l.lines.lines.items l.places l.workers l.self.worker l.origin l.rows.items
