use Rattle.line_plans.proofs.LastLines.{last_taken}
use Rattle.line_plans.proofs.laws.last_line_is_taken.Goals as goal

pub returns : goal.returns
returns c = last_taken
