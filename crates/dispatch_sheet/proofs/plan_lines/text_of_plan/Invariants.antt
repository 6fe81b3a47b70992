use Rattle.std.proofs.Common.{◌≡◌, string_bytes}
use Rattle.std.specs.List.{flat_map, range_with_len}
use Rattle.dispatch_sheet.specs.PlanText.{order_lines}
use Rattle.dispatch_sheet.proofs.PlanPairs.{pairs_from}
use Rattle.dispatch_sheet.proofs.plan_lines.text_of_plan.Given as goal

abbrev pub invariant-loop-j : goal.invariant-loop-j
invariant-loop-j l = (l.rest ≡ pairs_from l.j l.plan) × (string_bytes l.text ≡ flat_map (order_lines l.problem l.cells l.plan) (range_with_len 0 l.j))
