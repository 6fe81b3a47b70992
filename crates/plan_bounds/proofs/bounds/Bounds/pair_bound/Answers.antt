use Rattle.std.proofs.Common.{◌≡◌, Some, ap, ◌≤◌, arith, subst}
use Rattle.std.proofs.lemmas.Grind.{common_steps}
use Rattle.cost_table.specs.Table.{cost_at}
use Rattle.plan_bounds.specs.PricedPlan.{IsCertified, PricedPlan}
use Rattle.plan_bounds.specs.Slack.{in_64_bits, slack}
use Rattle.plan_bounds.specs.Bounds.{HasPair}
use Rattle.plan_bounds.proofs.NewPairs.{has_allowed}
use Rattle.plan_bounds.proofs.Least.{in_64_bits-le}
use Rattle.plan_bounds.proofs.OtherPlans.{certified_has_no_slack, lower_bound, pairs_cost_their_slack}
use Rattle.plan_bounds.proofs.bounds.Bounds.pair_bound.Goals as goal

pub returns-in-Some-clause-bound : goal.returns-in-Some-clause-bound
returns-in-Some-clause-bound c =
    let p = c.args.self.now in
    let certified : IsCertified p = subst IsCertified c.self.view_is c.self.invariant in
    let value : c.pair_slack.result ≡ in_64_bits (slack p (c.args.i, c.args.j)) = grind (arith, common_steps) in
    let le : c.pair_slack.result ≤ slack p (c.args.i, c.args.j) = omega (arith, value, in_64_bits-le (slack p (c.args.i, c.args.j))) in
    lower_bound p (HasPair c.args.i c.args.j) c.pair_slack.result (slack p (c.args.i, c.args.j)) le (pairs_cost_their_slack p certified c.args.i c.args.j)

pub returns-in-Some-clause-own : goal.returns-in-Some-clause-own
returns-in-Some-clause-own c =
    let p = c.args.self.now in
    let certified : IsCertified p = subst IsCertified c.self.view_is c.self.invariant in
    let value : c.pair_slack.result ≡ in_64_bits (slack p (c.args.i, c.args.j)) = grind (arith, common_steps) in
    λ has.
    let none = (certified_has_no_slack p certified).pairs c.args.i c.args.j has in
    let zero : c.pair_slack.result ≡ 0 = omega (arith, value, none) in
    ap Some zero

pub returns-in-None-clause-own : goal.returns-in-None-clause-own
returns-in-None-clause-own c = λ has.
    let p = c.args.self.now in
    let certified : IsCertified p = subst IsCertified c.self.view_is c.self.invariant in
    let allowed = has_allowed p.table p.pairs c.args.i c.args.j certified.plan.allowed has in
    let same = ap (λ (p : PricedPlan). cost_at p.table c.args.i c.args.j) c.self.view_is in
    let there : cost_at p.table c.args.i c.args.j ≡ Some allowed.2.0 = allowed.2.1 in
    cc (c.in-None.ensures.value, same, there)
