use Rattle.std.proofs.Common.{take, string_bytes}
use Rattle.reply_texts.specs.Lines.{Adds, AreLines}
use Rattle.dispatch_sheet.proofs.row_lines.push_lines.Given as goal

abbrev pub invariant-loop-row : goal.invariant-loop-row
invariant-loop-row g l = Adds (AreLines g.T.Lined.is_line (take l.row-index l.rows)) (string_bytes l.initial.text) (string_bytes l.text)
