use Rattle.std.proofs.Common.{string_bytes}
use Rattle.std.specs.List.{range_with_len}
use Rattle.reply_texts.specs.Lines.{Adds, AreLines}
use Rattle.plan_reasons.specs.WhyText.{IsOrderLine}
use Rattle.plan_reasons.proofs.why_lines.push_orders.Given as goal

abbrev pub invariant-loop-j : goal.invariant-loop-j
invariant-loop-j l = Adds (AreLines (IsOrderLine l.style l.numbers l.planned.network l.planned.problem l.planned.priced) (range_with_len 0 l.j)) (string_bytes l.initial.text) (string_bytes l.text)
