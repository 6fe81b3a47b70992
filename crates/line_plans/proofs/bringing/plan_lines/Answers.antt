use Rattle.line_plans.proofs.bringing.plan_lines.Goals as goal

pub returns : goal.returns
returns g c = rw c.standard-limit.ensures at c.run_replies.ensures
