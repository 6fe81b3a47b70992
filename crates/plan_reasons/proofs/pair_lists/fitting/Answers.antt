use Rattle.std.proofs.Common.{ap, ◌∙◌, rules}
use Rattle.std.specs.List.{filter}
use Rattle.std.proofs.lemmas.Fn.{filter_same}
use Rattle.plan_reasons.specs.PairLists.{passes_all}
use Rattle.plan_reasons.proofs.pair_lists.fitting.Goals as goal

pub returns : goal.returns
returns c = filter_same _ (passes_all c.args.cells.now) _ (λ x b f' t. search rules) _ _ c.retain.ensures.filtered ∙ ap (filter (passes_all c.args.cells.now)) c.in_ok-fits.ensures.items
