use Rattle.std.proofs.Common.{ℕ, ap, length, ◌∙◌}
use Rattle.cost_table.specs.Problem.{ProblemValue}
use Rattle.plan_reasons.specs.PairLists.{pairs_of_order}
use Rattle.plan_reasons.specs.PlaceFields.{names_of}
use Rattle.plan_reasons.specs.inner.AddedPairs.{IsPairOf}
use Rattle.plan_reasons.proofs.PairTexts.{all_of_range, text_of_order}
use Rattle.plan_reasons.proofs.one_text.order_text.Goals as goal

pub push_fits-requires : goal.push_fits-requires
push_fits-requires c =
    let problem = c.args.planned.now.problem in
    rw (c.deref.ensures.value, c.in_ok-pairs.ensures, c.problem.ensures.value) (all_of_range (IsPairOf problem) (λ (i : ℕ). (i, c.args.j)) (length problem.wagons) (λ k lt. (lt, c.requires)))

pub push_failed_of_order-requires-clause-pairs : goal.push_failed_of_order-requires-clause-pairs
push_failed_of_order-requires-clause-pairs c = c.deref-2.ensures.value ∙ c.in_ok-pairs.ensures ∙ ap (λ (p : ProblemValue). pairs_of_order p c.args.j) c.problem.ensures.value

pub returns : goal.returns
returns c =
    let planned = c.args.planned.now in
    text_of_order c.args.form.now.style c.args.numbers (names_of c.args.form.now) c.args.near planned.network planned.problem planned.priced _ _ _ _ _ _ _ c.new-text.ensures.bytes (c.in_ok-push_heading.ensures {u = tt}) (c.in_ok-push_fits.ensures {u = tt}) c.args.j (c.deref.ensures.value ∙ c.in_ok-pairs.ensures ∙ ap (λ (p : ProblemValue). pairs_of_order p c.args.j) c.problem.ensures.value) c.order_columns.ensures (c.in_ok-push_order_line.ensures {u = tt}) (c.in_ok-push_failed_of_order.ensures {u = tt})
