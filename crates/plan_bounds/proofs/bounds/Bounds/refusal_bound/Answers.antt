use Rattle.std.proofs.Common.{◌≡◌, ◌∙◌, ◌-◌, arith, subst, sym}
use Rattle.std.proofs.lemmas.Grind.{common_steps}
use Rattle.plan_bounds.specs.PricedPlan.{IsCertified}
use Rattle.plan_bounds.specs.Slack.{refusal_slack}
use Rattle.plan_bounds.specs.Bounds.{EachMissCosts}
use Rattle.plan_bounds.proofs.OtherPlans.{certified_has_no_slack, misses_cost_their_slack}
use Rattle.plan_bounds.proofs.bounds.Bounds.refusal_bound.Goals as goal

pub returns-clause-bound : goal.returns-clause-bound
returns-clause-bound c =
    let p = c.args.self.now in
    let certified : IsCertified p = subst IsCertified c.self.view_is c.self.invariant in
    let value : c.penalty.result - c.index.result.now ≡ refusal_slack p c.args.j = grind (arith, common_steps) in
    subst (EachMissCosts p c.args.j) (sym value) (misses_cost_their_slack p certified c.args.j c.requires)

pub returns-clause-own : goal.returns-clause-own
returns-clause-own c =
    let p = c.args.self.now in
    let certified : IsCertified p = subst IsCertified c.self.view_is c.self.invariant in
    let value : c.penalty.result - c.index.result.now ≡ refusal_slack p c.args.j = grind (arith, common_steps) in
    λ misses. value ∙ (certified_has_no_slack p certified).misses c.args.j c.requires misses
