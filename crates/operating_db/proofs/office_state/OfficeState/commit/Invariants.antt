use Rattle.std.proofs.Common.{◌≡◌, take, drop}
use Rattle.operating_db.specs.Commits.{promise_all}
use Rattle.operating_db.proofs.Commits.{AreNext}
use Rattle.operating_db.proofs.office_state.OfficeState.commit.Given as goal

abbrev pub invariant-loop-number : goal.invariant-loop-number
invariant-loop-number l = record {
  so_far : l.self ≡ record l.initial.self { office = promise_all l.initial.self.office (take l.number-index l.pairs) };
  next : AreNext l.self.office (drop l.number-index l.pairs);
}
