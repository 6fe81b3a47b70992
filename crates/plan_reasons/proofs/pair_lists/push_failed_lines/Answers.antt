use Rattle.std.proofs.Common.{◌+◌, take, get_or, refl, sym, string_bytes, arith}
use Rattle.reply_texts.proofs.Lines.{Adds-line, Adds-lines-along, taken_more}
use Rattle.plan_reasons.specs.declared.failed.Failed.{Failed}
use Rattle.plan_reasons.specs.declared.reasons.Test.TheVariants.{Class}
use Rattle.plan_reasons.specs.Pairs.{IsFailedLine}
use Rattle.plan_reasons.specs.PlaceFields.{names_of}
use Rattle.plan_reasons.proofs.pair_lists.push_failed_lines.Goals as goal

pub loop-pair-preserved : goal.loop-pair-preserved
loop-pair-preserved c =
    let is_line = IsFailedLine c.args.form.now.style (names_of c.args.form.now) c.args.planned.now.network c.args.planned.now.problem in
    let failed = c.args.failed.now in
    let i = c.loop-pair.pair-index in
    let none : Failed = record { pair = (0, 0); test = Class } in
    let pair : Failed = get_or failed i none in
    Adds-lines-along is_line _ (take (i + 1) failed) _ _ (sym (taken_more failed i pair none (omega arith) refl)) (Adds-line is_line (take i failed) pair (string_bytes c.args.text.now) (string_bytes c.loop-pair.text) _ c.loop-pair.invariant (c.in_ok-push_failed_line.ensures {u = tt}))
