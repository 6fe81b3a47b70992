use Rattle.std.proofs.Common.{rules}
use Rattle.wagons_program.proofs.feed.write_notes.Goals as goal

pub returns : goal.returns
returns g c = record { notes = c.in-Some.notes; are_its = search rules; none_lost = c.if-notes.false; written = search rules }
