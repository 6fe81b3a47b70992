use Rattle.std.proofs.Common.{◌∙◌, ap, rules}
use Rattle.std.specs.List.{filter}
use Rattle.std.proofs.lemmas.List.Sorted.{All-permutation}
use Rattle.cost_table.specs.Table.{Table}
use Rattle.plan_reasons.specs.PairLists.{passes_all}
use Rattle.plan_reasons.specs.inner.AddedPairs.{IsFoundFit}
use Rattle.plan_reasons.proofs.PairTexts.{all_passing, by_more}
use Rattle.plan_reasons.proofs.pair_lists.fits_by_more.Goals as goal

pub found-requires : goal.found-requires
found-requires c = rw (c.deref.ensures.value, c.in_ok-fitting.ensures, c.cells.ensures) (all_passing c.args.planned.now c.args.pairs.now c.requires)

pub returns-clause-by_more : goal.returns-clause-by_more
returns-clause-by_more c =
    let pairs = c.in_ok-fits.ensures.pairs ∙ (c.deref.ensures.value ∙ (c.in_ok-fitting.ensures ∙ ap (λ (t : Table). filter (passes_all t) c.args.pairs.now) c.cells.ensures)) in
    by_more c.args.numbers c.args.planned.now c.args.pairs.now _ _ pairs c.in_ok-fits.ensures.fitting c.in_ok-sort_by_key.ensures.permutation c.in_ok-sort_by_key.ensures.sorted c.in_ok-sort_by_key.ensures.stable (λ a r q k. search rules)

pub returns-clause-fitting : goal.returns-clause-fitting
returns-clause-fitting c = All-permutation (IsFoundFit c.args.numbers c.args.planned.now) _ _ c.in_ok-sort_by_key.ensures.permutation c.in_ok-fits.ensures.fitting
