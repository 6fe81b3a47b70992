use Rattle.sessions.proofs.Planned.{certificates_are_accepted, plans_are_accepted}
use Rattle.sessions.proofs.laws.a_plan_for_the_present_is_accepted.Goals as goal

pub returns-clause-certificates : goal.returns-clause-certificates
returns-clause-certificates c = certificates_are_accepted

pub returns-clause-plans : goal.returns-clause-plans
returns-clause-plans c = plans_are_accepted
