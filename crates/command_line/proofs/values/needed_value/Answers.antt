use Rattle.std.proofs.Common.{[], ap, unwrap_or}
use Rattle.command_line.proofs.values.needed_value.Goals as goal

pub returns-in-Some : goal.returns-in-Some
returns-in-Some c = ap (λ o. unwrap_or o []) c.in-Some.ensures

pub returns-in-None : goal.returns-in-None
returns-in-None c = ap (λ o. unwrap_or o []) c.in-None.ensures
