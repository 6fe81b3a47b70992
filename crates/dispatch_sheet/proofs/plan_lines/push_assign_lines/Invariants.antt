use Rattle.std.proofs.Common.{◌≡◌, ◌++◌, take, string_bytes}
use Rattle.std.specs.List.{flat_map}
use Rattle.dispatch_sheet.specs.PlanText.{assign_line}
use Rattle.dispatch_sheet.proofs.plan_lines.push_assign_lines.Given as goal

abbrev pub invariant-loop-pair : goal.invariant-loop-pair
invariant-loop-pair l = string_bytes l.text ≡ string_bytes l.initial.text ++ flat_map (assign_line l.problem l.cells) (take l.pair-index l.pairs)
