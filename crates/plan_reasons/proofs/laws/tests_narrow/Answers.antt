use Rattle.plan_reasons.proofs.Narrow.{counts_are_settled, tests_narrow}
use Rattle.plan_reasons.proofs.laws.tests_narrow.Goals as goal

pub returns-clause-settled : goal.returns-clause-settled
returns-clause-settled c = counts_are_settled

pub returns-clause-narrow : goal.returns-clause-narrow
returns-clause-narrow c = tests_narrow
