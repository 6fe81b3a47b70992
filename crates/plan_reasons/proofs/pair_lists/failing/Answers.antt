use Rattle.std.proofs.Common.{ℕ, ap, ◌∙◌, rules}
use Rattle.std.specs.Prelude.{not}
use Rattle.std.specs.List.{filter}
use Rattle.std.proofs.lemmas.Fn.{filter_same}
use Rattle.plan_reasons.specs.PairLists.{passes_all}
use Rattle.plan_reasons.proofs.pair_lists.failing.Goals as goal

pub returns : goal.returns
returns c = filter_same _ (λ (pair : ℕ × ℕ). not (passes_all c.args.cells.now pair)) _ (λ x b f' t. search rules) _ _ c.retain.ensures.filtered ∙ ap (filter (λ (pair : ℕ × ℕ). not (passes_all c.args.cells.now pair))) c.in_ok-failing.ensures.items
