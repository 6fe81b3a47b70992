use Rattle.std.proofs.Common.{◌∙◌}
use Rattle.std.proofs.lemmas.Result.{on_ok_weaker}
use Rattle.plan_reasons.proofs.PairTexts.{fits_text}
use Rattle.plan_reasons.proofs.pair_lists.push_fits.Goals as goal

pub push_fit_lines-requires : goal.push_fit_lines-requires
push_fit_lines-requires c = rw c.deref.ensures.value c.in_ok-fits.ensures.fitting

pub returns : goal.returns
returns c =
    let planned = c.args.planned.now in
    on_ok_weaker c.push_fit_lines.result (fits_text c.args.style c.args.numbers planned.network planned.problem planned.priced c.args.near c.args.pairs.now c.in_ok-fits.fits.items _ _ _ _ _ _ c.in_ok-fits.ensures.nearest (c.len.ensures ∙ c.in_ok-fits.fits.ok.0) c.fits_columns.ensures c.deref.ensures.value c.in_ok-push_heading_over.ensures) c.push_fit_lines.ensures
