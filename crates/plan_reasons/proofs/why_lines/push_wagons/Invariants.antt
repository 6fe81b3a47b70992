use Rattle.std.proofs.Common.{take, string_bytes}
use Rattle.reply_texts.specs.Lines.{Adds, AreLines}
use Rattle.plan_reasons.specs.WhyText.{IsWagonLine}
use Rattle.plan_reasons.proofs.why_lines.push_wagons.Given as goal

abbrev pub invariant-loop-pair : goal.invariant-loop-pair
invariant-loop-pair l = Adds (AreLines (IsWagonLine l.style l.numbers l.planned.network l.planned.problem l.planned.priced) (take l.pair-index l.pair-items)) (string_bytes l.initial.text) (string_bytes l.text)
