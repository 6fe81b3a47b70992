use Rattle.sessions.proofs.FedSeats.{numbered}
use Rattle.sessions.proofs.feed_lines.FeedLinesResponder.respond.Goals as goal

pub returns : goal.returns
returns g c = numbered c.args.lines.now c.bring_line.new.lines c.args.number c.args.line.now c.bring_line.ensures
