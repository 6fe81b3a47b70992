use Rattle.std.proofs.Common.{inr}
use Rattle.line_fields.specs.Commands.{command_of}
use Rattle.sessions.specs.declared.feed_lines.Counted.TheVariants.{Refused}
use Rattle.sessions.proofs.FedSeats.{turned_away}
use Rattle.sessions.proofs.feed_lines.FeedLines.bring_line.Goals as goal

pub returns-in-Err : goal.returns-in-Err
returns-in-Err g c =
    let counts = c.count.ensures in
    inr (record {
      mid = c.submit_pending.new.lines.file;
      before = c.submit_pending.ensures.fed;
      fed = record {
        counted = Refused;
        taken = rw counts.seat (turned_away _ _ (command_of c.args.line.now));
        repeated = counts.repeated;
        refused = counts.refused;
        out_of_step = counts.out_of_step;
      };
      pending = c.submit_pending.ensures.none;
    })
