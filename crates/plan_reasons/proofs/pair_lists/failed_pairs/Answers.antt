use Rattle.std.proofs.Common.{◌∙◌, ap, not}
use Rattle.std.specs.List.{filter}
use Rattle.cost_table.specs.Table.{Table}
use Rattle.plan_reasons.specs.PairLists.{passes_all}
use Rattle.plan_reasons.proofs.PairTexts.{all_failing}
use Rattle.plan_reasons.proofs.pair_lists.failed_pairs.Goals as goal

pub tested-requires : goal.tested-requires
tested-requires c = rw (c.deref.ensures.value, c.in_ok-failing.ensures, c.cells.ensures) (all_failing c.args.planned.now c.args.pairs.now c.requires)

pub returns-clause-failed : goal.returns-clause-failed
returns-clause-failed c = record {
  of_pairs = c.in_ok-failed.ensures.pairs ∙ (c.deref.ensures.value ∙ (c.in_ok-failing.ensures ∙ ap (λ (t : Table). filter (λ pair. not (passes_all t pair)) c.args.pairs.now) c.cells.ensures));
  each = λ k d lt. (c.in_ok-failed.ensures.each k d lt).1;
}
