use Rattle.std.proofs.Common.{sym}
use Rattle.operating_db.proofs.Changes.{ended_none, ended_next}
use Rattle.operating_db.proofs.promises.end_promises.Goals as goal

pub loop-number-init : goal.loop-number-init
loop-number-init c = sym (ended_none c.args.wagons.now)

pub loop-number-preserved : goal.loop-number-preserved
loop-number-preserved c = ended_next c.args.numbers.now c.loop-number.number-index c.number-item.result c.args.wagons.now c.loop-number.wagons c.end_promise.new.self c.number-item.is c.loop-number-test.true c.loop-number.invariant c.end_promise.ensures
