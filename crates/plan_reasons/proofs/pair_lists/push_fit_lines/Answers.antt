use Rattle.std.proofs.Common.{◌+◌, take, get_or, refl, sym, string_bytes, arith}
use Rattle.reply_texts.proofs.Lines.{Adds-line, Adds-lines-along, taken_more}
use Rattle.plan_reasons.specs.declared.fit.Fit.{Fit}
use Rattle.plan_reasons.specs.Pairs.{IsFitsLine}
use Rattle.plan_reasons.proofs.pair_lists.push_fit_lines.Goals as goal

pub loop-fit-preserved : goal.loop-fit-preserved
loop-fit-preserved c =
    let is_line = IsFitsLine c.args.style c.args.numbers c.args.planned.now.network c.args.planned.now.problem c.args.planned.now.priced in
    let fits = c.args.fits.now in
    let i = c.loop-fit.fit-index in
    let none : Fit = record { pair = (0, 0); more = 0 } in
    let fit : Fit = get_or fits i none in
    Adds-lines-along is_line _ (take (i + 1) fits) _ _ (sym (taken_more fits i fit none (omega arith) refl)) (Adds-line is_line (take i fits) fit (string_bytes c.args.text.now) (string_bytes c.loop-fit.text) _ c.loop-fit.invariant (c.in_ok-push_fits_line.ensures {u = tt}))
