use Rattle.std.proofs.Common.{refl}
use Rattle.operating_db.proofs.Commits.{next_of_can, commit_next}
use Rattle.operating_db.proofs.office_state.OfficeState.commit.Goals as goal

pub loop-number-init : goal.loop-number-init
loop-number-init c = record { so_far = refl; next = next_of_can c.args.self.now.office c.args.pairs.now c.requires }

pub loop-number-preserved : goal.loop-number-preserved
loop-number-preserved c =
    let more = commit_next c.args.pairs.now c.loop-number.number-index c.loop-number-item.result c.args.self.now c.loop-number.self c.promise.new.self c.loop-number-item.is c.loop-number-test.true c.loop-number.invariant.so_far c.loop-number.invariant.next c.promise.ensures in
    record { so_far = more.0; next = more.1 }
