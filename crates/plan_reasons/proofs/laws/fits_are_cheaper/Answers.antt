use Rattle.plan_reasons.proofs.Passing.{fits_are_cheaper}
use Rattle.plan_reasons.proofs.laws.fits_are_cheaper.Goals as goal

pub returns : goal.returns
returns c = fits_are_cheaper
