use Rattle.std.proofs.Common.{◌∙◌}
use Rattle.sessions.proofs.SameVec.{with_same}
use Rattle.sessions.proofs.closing.audited.Goals as goal

pub returns-clause-seats : goal.returns-clause-seats
returns-clause-seats g c = with_same c.args.seats c.audit_all.new.seats (c.audit_all.ensures.seats ∙ c.deref_mut.ensures.value)
