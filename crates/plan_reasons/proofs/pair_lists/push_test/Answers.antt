use Rattle.std.proofs.Common.{◌∙◌}
use Rattle.std.proofs.lemmas.Result.{on_ok_weaker}
use Rattle.plan_reasons.specs.PlaceFields.{names_of}
use Rattle.plan_reasons.proofs.PairTexts.{all_of_test, test_text}
use Rattle.plan_reasons.proofs.pair_lists.push_test.Goals as goal

pub push_failed_lines-requires : goal.push_failed_lines-requires
push_failed_lines-requires c = rw (c.deref.ensures.value, c.in_ok-listed.ensures) (all_of_test c.args.planned.now c.args.test c.args.failed.now c.requires)

pub returns : goal.returns
returns c =
    let planned = c.args.planned.now in
    on_ok_weaker c.push_failed_lines.result (test_text c.args.form.now.style (names_of c.args.form.now) planned.network planned.problem c.args.failed.now c.args.test c.in_ok-listed.listed.items _ _ _ _ _ _ c.in_ok-listed.ensures (c.len.ensures ∙ c.in_ok-listed.listed.ok.0) c.test_columns.ensures c.deref.ensures.value c.in_ok-push_heading_over.ensures) c.push_failed_lines.ensures
