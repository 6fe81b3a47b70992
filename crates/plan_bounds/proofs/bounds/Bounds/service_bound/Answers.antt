use Rattle.std.proofs.Common.{◌≡◌, ◌∙◌, ◌+◌, ◌≤◌, ℕ, Some, ap, arith, subst, sym}
use Rattle.cost_table.specs.Table.{wagon_count}
use Rattle.plan_bounds.specs.PricedPlan.{IsCertified, PricedPlan}
use Rattle.plan_bounds.specs.LeastSlack.{least_new_slack}
use Rattle.plan_bounds.proofs.Identity.{slacks_are_the_difference}
use Rattle.plan_bounds.proofs.Least.{least_bounds, least_more, none_bounds, zero_stays}
use Rattle.plan_bounds.proofs.bounds.Bounds.service_bound.Goals as goal

pub loop-i-preserved : goal.loop-i-preserved
loop-i-preserved c =
    least_more c.args.self.now c.args.j c.loop-i.i c.loop-i.least c.new_slack.result c.lesser-least.result c.loop-i.invariant c.new_slack.ensures c.lesser-least.ensures

pub returns-in-Some-eq0-clause-value : goal.returns-in-Some-eq0-clause-value
returns-in-Some-eq0-clause-value c =
    let p = c.args.self.now in
    let more = least_more p c.args.j c.loop-i.i c.loop-i.least c.new_slack.result c.lesser-least.result c.loop-i.invariant c.new_slack.ensures c.lesser-least.ensures in
    let zero : c.in-Some-eq0.field-0 ≡ 0 = omega arith in
    let here : least_new_slack p c.args.j (c.loop-i.i + 1) ≡ Some 0 = sym more ∙ (c.in-Some-eq0.is ∙ ap Some zero) in
    let wagons = ap (λ (p : PricedPlan). wagon_count p.table) c.self.view_is in
    let within : c.loop-i.i + 1 ≤ wagon_count p.table = omega (arith, wagons) in
    sym (zero_stays p c.args.j (c.loop-i.i + 1) (wagon_count p.table) within here)

pub returns-in-Some-eq0-clause-bound : goal.returns-in-Some-eq0-clause-bound
returns-in-Some-eq0-clause-bound c = λ other plan more.
    let certified : IsCertified c.args.self.now = subst IsCertified c.self.view_is c.self.invariant in
    let same = slacks_are_the_difference c.args.self.now certified other plan in
    omega (arith, same)

pub returns-clause-bound : goal.returns-clause-bound
returns-clause-bound c =
    let p = c.args.self.now in
    let certified : IsCertified p = subst IsCertified c.self.view_is c.self.invariant in
    let wagons = ap (λ (p : PricedPlan). wagon_count p.table) c.self.view_is in
    let all : c.loop-i.i ≡ wagon_count p.table = omega (arith, wagons) in
    least_bounds p certified c.args.j c.loop-i.least (subst (λ (n : ℕ). c.loop-i.least ≡ least_new_slack p c.args.j n) all c.loop-i.invariant)

pub returns-clause-none : goal.returns-clause-none
returns-clause-none c =
    let p = c.args.self.now in
    let certified : IsCertified p = subst IsCertified c.self.view_is c.self.invariant in
    let wagons = ap (λ (p : PricedPlan). wagon_count p.table) c.self.view_is in
    let all : c.loop-i.i ≡ wagon_count p.table = omega (arith, wagons) in
    none_bounds p certified c.args.j c.loop-i.least (subst (λ (n : ℕ). c.loop-i.least ≡ least_new_slack p c.args.j n) all c.loop-i.invariant)
