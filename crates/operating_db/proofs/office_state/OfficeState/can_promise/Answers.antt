use Rattle.operating_db.proofs.Commits.{can_by_test}
use Rattle.operating_db.proofs.office_state.OfficeState.can_promise.Goals as goal

pub returns : goal.returns
returns c = can_by_test c.args.self.now.office c.args.pairs.now c.are_promisable.result c.are_promisable.ensures
