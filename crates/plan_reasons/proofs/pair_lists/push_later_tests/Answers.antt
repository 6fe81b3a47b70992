use Rattle.std.proofs.lemmas.Result.{on_ok_weaker}
use Rattle.plan_reasons.specs.PlaceFields.{names_of}
use Rattle.plan_reasons.proofs.PairTexts.{later_text}
use Rattle.plan_reasons.proofs.pair_lists.push_later_tests.Goals as goal

pub returns : goal.returns
returns c =
    let planned = c.args.planned.now in
    on_ok_weaker c.push_test-4.result (later_text c.args.form.now.style (names_of c.args.form.now) planned.network planned.problem c.args.failed.now _ _ _ _ _ (c.in_ok-push_test.ensures {u = tt}) (c.in_ok-push_test-2.ensures {u = tt}) (c.in_ok-push_test-3.ensures {u = tt})) c.push_test-4.ensures
