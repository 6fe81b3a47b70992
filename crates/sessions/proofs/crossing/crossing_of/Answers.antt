use Rattle.std.proofs.Common.{arith}
use Rattle.sessions.proofs.MovedWagons.{moved_somewhere, within_files}
use Rattle.sessions.proofs.crossing.crossing_of.Goals as goal

pub returns-in_err-moving : goal.returns-in_err-moving
returns-in_err-moving g c = absurd (moved_somewhere c.args.seats.now c.args.index c.args.wagons.now c.least_elsewhere.result c.in_ok-wagon.wagon c.in_ok-wagon.was c.least_elsewhere.ensures c.in_err-moving.ensures.none)

pub overflow_cast-result : goal.overflow_cast-result
overflow_cast-result g c = omega (arith, within_files c.args.seats.now c.args.index c.in_ok-moving.moving c.in_ok-wagon.wagon c.in_ok-moving.ensures.some c.requires.seats)

pub overflow_add-result : goal.overflow_add-result
overflow_add-result g c = omega (arith, within_files c.args.seats.now c.args.index c.in_ok-moving.moving c.in_ok-wagon.wagon c.in_ok-moving.ensures.some c.requires.seats)
