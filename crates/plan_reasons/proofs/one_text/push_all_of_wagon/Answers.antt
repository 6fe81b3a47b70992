use Rattle.std.proofs.lemmas.Result.{on_ok_weaker}
use Rattle.plan_reasons.specs.PlaceFields.{names_of}
use Rattle.plan_reasons.proofs.PairTexts.{of_wagon_text, pairs_of_its_wagon}
use Rattle.plan_reasons.proofs.one_text.push_all_of_wagon.Goals as goal

pub failed_pairs-requires : goal.failed_pairs-requires
failed_pairs-requires c = pairs_of_its_wagon c.args.planned.now.problem c.args.i c.args.pairs.now c.requires.wagon c.requires.pairs

pub push_test-requires : goal.push_test-requires
push_test-requires c = rw c.deref.ensures.value c.in_ok-failed.ensures.each

pub push_later_tests-requires : goal.push_later_tests-requires
push_later_tests-requires c = rw c.deref-2.ensures.value c.in_ok-failed.ensures.each

pub returns : goal.returns
returns c =
    let planned = c.args.planned.now in
    on_ok_weaker c.push_later_tests.result (of_wagon_text c.args.form.now.style (names_of c.args.form.now) planned.network planned.problem c.in_ok-failed.failed.items planned.priced.table c.args.i c.args.pairs.now _ _ _ _ _ c.requires.pairs c.in_ok-failed.ensures.failed c.deref.ensures.value c.deref-2.ensures.value (c.in_ok-push_test.ensures {u = tt})) c.push_later_tests.ensures
