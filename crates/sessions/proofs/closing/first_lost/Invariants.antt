use Rattle.std.proofs.Common.{take}
use Rattle.std.specs.Prelude.{All}
use Rattle.sessions.specs.Closing.{HasEntries}
use Rattle.sessions.proofs.closing.first_lost.Given as goal

abbrev pub invariant-loop-seat : goal.invariant-loop-seat
invariant-loop-seat g l = All (HasEntries l.book.state.history) (take l.seat-index l.seats)
