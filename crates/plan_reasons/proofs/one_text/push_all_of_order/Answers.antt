use Rattle.std.proofs.Common.{◌≡◌, Some, ◌∙◌, ap, arith}
use Rattle.std.specs.Prelude.{slice_get}
use Rattle.std.proofs.lemmas.Result.{on_ok_weaker}
use Rattle.cost_table.specs.Problem.{ProblemValue}
use Rattle.plan_reasons.specs.PlaceFields.{names_of}
use Rattle.plan_reasons.proofs.Arrivals.{standing}
use Rattle.plan_reasons.proofs.PairTexts.{of_order_text, pairs_of_its_order}
use Rattle.plan_reasons.proofs.one_text.push_all_of_order.Goals as goal

pub failed_pairs-requires : goal.failed_pairs-requires
failed_pairs-requires c = pairs_of_its_order c.args.planned.now.problem c.args.j c.args.pairs.now c.requires.order c.requires.pairs

pub push_later_tests-requires : goal.push_later_tests-requires
push_later_tests-requires c = rw c.deref-2.ensures.value c.in_ok-failed.ensures.each

pub returns : goal.returns
returns c =
    let planned = c.args.planned.now in
    let problem = planned.problem in
    let wanted = c.index-orders-j.result in
    let stands : slice_get problem.orders c.args.j ≡ Some wanted = standing c.orders.result.now problem.orders c.args.j wanted (c.orders.ensures.orders ∙ ap (λ (p : ProblemValue). p.orders) c.problem.ensures.value) c.requires.order c.index-orders-j.is in
    on_ok_weaker c.push_later_tests.result (of_order_text c.args.form.now.style (names_of c.args.form.now) planned.network problem c.in_ok-failed.failed.items planned.priced.table c.args.j c.len-count.result wanted c.order-order.result.now c.args.pairs.now _ _ _ _ _ _ stands c.order-order.ensures c.requires.pairs c.in_ok-failed.ensures.failed c.in_ok-other_class.ensures c.deref.ensures.value c.deref-2.ensures.value (c.len-count.ensures ∙ c.in_ok-other_class.other_class.ok.0) (omega arith) (c.in_ok-push_counted.ensures {u = tt})) c.push_later_tests.ensures
