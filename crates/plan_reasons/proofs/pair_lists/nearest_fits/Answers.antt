use Rattle.plan_reasons.specs.inner.AddedPairs.{IsFoundFit}
use Rattle.plan_reasons.proofs.PairTexts.{nearest_all}
use Rattle.plan_reasons.proofs.pair_lists.nearest_fits.Goals as goal

pub returns-clause-nearest : goal.returns-clause-nearest
returns-clause-nearest c = record { fits = c.in_ok-fits.fits.items; by_more = c.in_ok-fits.ensures.by_more; first = c.keep_nearest.ensures }

pub returns-clause-fitting : goal.returns-clause-fitting
returns-clause-fitting c = rw c.keep_nearest.ensures (nearest_all (IsFoundFit c.args.numbers c.args.planned.now) c.args.near c.in_ok-fits.fits.items c.in_ok-fits.ensures.fitting)
