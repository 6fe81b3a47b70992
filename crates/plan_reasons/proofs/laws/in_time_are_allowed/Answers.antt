use Rattle.plan_reasons.proofs.Columns.{in_time_are_allowed}
use Rattle.plan_reasons.proofs.laws.in_time_are_allowed.Goals as goal

pub returns : goal.returns
returns c = in_time_are_allowed
