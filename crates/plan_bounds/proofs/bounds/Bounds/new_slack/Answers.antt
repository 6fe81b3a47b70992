use Rattle.std.proofs.Common.{◌≡◌, ◌∙◌, ◌<◌, Some, false, ap, arith, subst, sym}
use Rattle.plan_bounds.specs.PricedPlan.{IsCertified, PricedPlan}
use Rattle.plan_bounds.specs.Slack.{slack, slack_of_pair}
use Rattle.plan_bounds.specs.LeastSlack.{has_pair}
use Rattle.plan_bounds.proofs.Least.{new_with_slack, slack_of_new, slack_of_pair-le}
use Rattle.plan_bounds.proofs.bounds.Bounds.new_slack.Goals as goal
use Rattle.plan_bounds.proofs.bounds.Bounds.new_slack.Goals.{else-slack-eq0-via-then-slack-eq0+else-has_pair, else-slack-eq0-via-else-slack-eq0}

pub returns : goal.returns
returns c =
    let p = c.args.self.now in
    let certified : IsCertified p = subst IsCertified c.self.view_is c.self.invariant in
    let value = c.in_ok-slack.ensures.value in
    let new : has_pair p.pairs c.args.i c.args.j ≡ false = elim c.else-slack-eq0.branch [
      | else-slack-eq0-via-then-slack-eq0+else-has_pair w ↦
          let same = c.pairs-pairs.ensures.pairs ∙ ap (λ (p : PricedPlan). p.pairs) c.self.view_is in
          ap (λ ps. has_pair ps c.args.i c.args.j) (sym same) ∙ (sym w.has_pair.ensures ∙ w.if-has_pair.false)
      | else-slack-eq0-via-else-slack-eq0 w ↦
          let le = slack_of_pair-le p c.args.i c.args.j c.in_ok-slack.slack value in
          let more : 0 < slack p (c.args.i, c.args.j) = omega (arith, le) in
          new_with_slack p certified c.args.i c.args.j more
    ] in
    slack_of_new (has_pair p.pairs c.args.i c.args.j) (Some c.in_ok-slack.slack) (slack_of_pair p c.args.i c.args.j) new value
