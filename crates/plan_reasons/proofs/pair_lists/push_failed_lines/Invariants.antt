use Rattle.std.proofs.Common.{take, string_bytes}
use Rattle.reply_texts.specs.Lines.{Adds, AreLines}
use Rattle.plan_reasons.specs.Pairs.{IsFailedLine}
use Rattle.plan_reasons.specs.PlaceFields.{names_of}
use Rattle.plan_reasons.proofs.pair_lists.push_failed_lines.Given as goal

abbrev pub invariant-loop-pair : goal.invariant-loop-pair
invariant-loop-pair l = Adds (AreLines (IsFailedLine l.form.style (names_of l.form) l.planned.network l.planned.problem) (take l.pair-index l.failed)) (string_bytes l.initial.text) (string_bytes l.text)
