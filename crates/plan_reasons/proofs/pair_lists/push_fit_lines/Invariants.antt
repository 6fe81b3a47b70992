use Rattle.std.proofs.Common.{take, string_bytes}
use Rattle.reply_texts.specs.Lines.{Adds, AreLines}
use Rattle.plan_reasons.specs.Pairs.{IsFitsLine}
use Rattle.plan_reasons.proofs.pair_lists.push_fit_lines.Given as goal

abbrev pub invariant-loop-fit : goal.invariant-loop-fit
invariant-loop-fit l = Adds (AreLines (IsFitsLine l.style l.numbers l.planned.network l.planned.problem l.planned.priced) (take l.fit-index l.fits)) (string_bytes l.initial.text) (string_bytes l.text)
