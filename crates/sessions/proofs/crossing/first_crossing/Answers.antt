use Rattle.std.proofs.Common.{arith}
use Rattle.sessions.proofs.MovedWagons.{file_with, file_without, no_file_left}
use Rattle.sessions.proofs.crossing.first_crossing.Goals as goal

pub returns-in-Some : goal.returns-in-Some
returns-in-Some g c =
    file_with c.args.seats.now c.args.refused.now c.loop-index.index c.index-refused-index.result c.crossing_of.result c.in-Some.crossing c.in-Some.is c.loop-index-test.true c.index-refused-index.is c.crossing_of.ensures
    c.loop-index.invariant

pub loop-index-preserved : goal.loop-index-preserved
loop-index-preserved g c =
    file_without c.args.seats.now c.args.refused.now c.loop-index.index c.index-refused-index.result c.crossing_of.result c.in-None.is c.loop-index-test.true c.index-refused-index.is c.crossing_of.ensures c.loop-index.invariant

pub returns : goal.returns
returns g c = no_file_left c.args.seats.now c.args.refused.now (λ other held. omega (arith, c.loop-index.invariant other held))
