use Rattle.std.proofs.Common.{None}
use Rattle.journal_notes.proofs.WithStreak.{with_streak}
use Rattle.journal_notes.proofs.streaks.Streaks.end.Goals as goal

pub returns : goal.returns
returns c = rw (← c.self.view_is) (with_streak c.args.number None c.self.inside.by_wagon.entries c.remove.new.self.entries c.remove.ensures.updates.0)
