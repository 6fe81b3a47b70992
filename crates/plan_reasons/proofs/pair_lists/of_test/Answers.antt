use Rattle.std.proofs.Common.{ap, ◌∙◌, rules}
use Rattle.std.specs.List.{filter}
use Rattle.std.proofs.lemmas.Fn.{filter_same}
use Rattle.plan_reasons.specs.PairLists.{fails}
use Rattle.plan_reasons.proofs.pair_lists.of_test.Goals as goal

pub returns : goal.returns
returns c = filter_same _ (fails c.args.test) _ (λ x b f' t. search rules) _ _ c.retain.ensures.filtered ∙ ap (filter (fails c.args.test)) c.in_ok-listed.ensures.items
