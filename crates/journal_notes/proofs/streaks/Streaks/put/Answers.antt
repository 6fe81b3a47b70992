use Rattle.std.proofs.Common.{Some}
use Rattle.journal_notes.proofs.WithStreak.{with_streak}
use Rattle.journal_notes.proofs.streaks.Streaks.put.Goals as goal

pub returns : goal.returns
returns c = rw (← c.self.view_is) (with_streak c.args.number (Some c.args.streak.now) c.self.inside.by_wagon.entries c.insert.new.self.entries c.in_ok-insert.ensures.updates.0)
