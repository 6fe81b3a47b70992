use Rattle.std.proofs.Common.{◌≡◌, ◌++◌, string_bytes}
use Rattle.std.specs.Prelude.{replicate}
use Rattle.std.specs.List.{concat}
use Rattle.dispatch_sheet.specs.PlanText.{refuse_line}
use Rattle.dispatch_sheet.proofs.plan_lines.push_refuse_lines.Given as goal

abbrev pub invariant-loop-missed : goal.invariant-loop-missed
invariant-loop-missed l = string_bytes l.text ≡ string_bytes l.initial.text ++ concat (replicate l._missed (refuse_line l.problem l.cells l.j))
