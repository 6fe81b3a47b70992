use Rattle.std.proofs.Common.{◌∙◌, sym}
use Rattle.fleet_rows.proofs.EmptyList.{one_stand}
use Rattle.fleet_rows.proofs.empty_wagons.is_same_stand.Goals as goal

pub returns : goal.returns
returns c = λ same. one_stand c.args.one c.args.other (sym c.eq.ensures ∙ same)
