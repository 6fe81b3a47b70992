use Rattle.std.proofs.Common.{◌≡◌, ◌+◌, ◌++◌, drop}
use Rattle.std.specs.Prelude.{string_bytes}
use Rattle.sessions.specs.ReportText.{file_lines}
use Rattle.sessions.proofs.feed_report.report_text.Given as goal

abbrev pub invariant-loop-k : goal.invariant-loop-k
invariant-loop-k g l = string_bytes l.text ++ file_lines (l.k + 1) (drop l.k l.report.files.items) ≡ file_lines 1 l.report.files.items
