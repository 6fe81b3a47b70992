use Rattle.std.proofs.Common.{◌≡◌, ◌≤◌, ◌*◌}
use Rattle.cost_table.specs.Plan.{sum_below}
use Rattle.plan_bounds.specs.Slack.{missed}
use Rattle.plan_reasons.proofs.why_lines.missed_in_all.Given as goal

abbrev pub invariant-loop-j : goal.invariant-loop-j
invariant-loop-j l = (l.all ≤ 20 * l.j) × (l.all ≡ sum_below l.j (missed l.planned.priced l.planned.priced.pairs))
