use Rattle.std.proofs.Common.{◌+◌, ◌*◌, length}
use Rattle.sessions.proofs.closing.+seats.Given as goal

-- the measure of the closure that goes on stands between those of the call that makes it and of the call that it makes
abbrev pub decreases-first_lost_by_threads : goal.decreases-first_lost_by_threads
decreases-first_lost_by_threads g l = 2 * length l.seats.now

abbrev pub decreases-join+arg3 : goal.decreases-join+arg3
decreases-join+arg3 g l = 2 * length l.others.now + 1
