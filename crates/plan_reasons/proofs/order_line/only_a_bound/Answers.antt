use Rattle.std.proofs.Common.{refl}
use Rattle.json.specs.Print.{escape_byte}
use Rattle.plan_reasons.proofs.order_line.only_a_bound.Goals as goal

pub returns-in-Json : goal.returns-in-Json
unfolding escape_byte
returns-in-Json c = rw c.in-Json.is refl
