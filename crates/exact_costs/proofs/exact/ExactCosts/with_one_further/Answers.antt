use Rattle.std.proofs.Common.{◌∙◌, ◌+◌, ◌*◌, ℕ, ap, refl}
use Rattle.cost_table.specs.Plan.{serves}
use Rattle.cost_table.specs.Table.{lack_at, penalty_at}
use Rattle.plan_bounds.specs.PricedPlan.{PricedPlan}
use Rattle.exact_costs.proofs.FurtherPlans.{asked, exactly, over}
use Rattle.exact_costs.proofs.exact.ExactCosts.with_one_further.Goals as goal

pub returns-then-least-wanted : goal.returns-then-least-wanted
returns-then-least-wanted c =
    let j = c.args.j in
    let p = c.args.self.now in
    let kept = c.given.ensures ∙ ap (serves j) c.pairs.ensures.pairs in
    let own = kept ∙ ap (λ (p : PricedPlan). serves j p.pairs) c.self.view_is in
    over p j c.in_ok-least.least.cost c.in_ok-least.least.gives (c.given.result + 1) c.penalty-penalty.result _
    (asked _ p c.cost-cost.ensures.certified c.self.view_is j c.in_ok-least.least.cost c.in_ok-least.least.gives (c.given.result + 1) c.in_ok-changed.changed (ap (λ (n : ℕ). n + 1) kept) c.for_the_prover.ensures c.requires.order c.requires.misses c.in_ok-changed.ensures c.in_ok-least.ensures.certified)
    (ap (λ (n : ℕ). n + 1) own) c.if-least-wanted.true (c.penalty-penalty.ensures.value ∙ ap (λ (p : PricedPlan). penalty_at p.table j) c.self.view_is) refl c.requires.new

pub overflow_sub-result-2 : goal.overflow_sub-result-2
overflow_sub-result-2 c =
    let j = c.args.j in
    let p = c.args.self.now in
    let n = c.in_ok-least.least.cost in
    let kept = c.given.ensures ∙ ap (serves j) c.pairs.ensures.pairs in
    let own = kept ∙ ap (λ (p : PricedPlan). serves j p.pairs) c.self.view_is in
    (exactly p j n c.in_ok-least.least.gives c.cost-cost.result c.lack-lack.result (c.given.result + 1) c.penalty-penalty.result (n + c.penalty-penalty.result * c.from.result)
    (asked _ p c.cost-cost.ensures.certified c.self.view_is j n c.in_ok-least.least.gives (c.given.result + 1) c.in_ok-changed.changed (ap (λ (n : ℕ). n + 1) kept) c.for_the_prover.ensures c.requires.order c.requires.misses c.in_ok-changed.ensures c.in_ok-least.ensures.certified)
    c.cost-cost.ensures.value (ap (λ (n : ℕ). n + 1) own) c.if-least-wanted.false (c.lack-lack.ensures.value ∙ ap (λ (p : PricedPlan). lack_at p.table j) c.self.view_is)
    (c.penalty-penalty.ensures.value ∙ ap (λ (p : PricedPlan). penalty_at p.table j) c.self.view_is) (ap (λ (k : ℕ). n + c.penalty-penalty.result * k) c.from.ensures)).no_less

pub returns : goal.returns
returns c =
    let j = c.args.j in
    let p = c.args.self.now in
    let n = c.in_ok-least.least.cost in
    let kept = c.given.ensures ∙ ap (serves j) c.pairs.ensures.pairs in
    let own = kept ∙ ap (λ (p : PricedPlan). serves j p.pairs) c.self.view_is in
    (exactly p j n c.in_ok-least.least.gives c.cost-cost.result c.lack-lack.result (c.given.result + 1) c.penalty-penalty.result (n + c.penalty-penalty.result * c.from.result)
    (asked _ p c.cost-cost.ensures.certified c.self.view_is j n c.in_ok-least.least.gives (c.given.result + 1) c.in_ok-changed.changed (ap (λ (n : ℕ). n + 1) kept) c.for_the_prover.ensures c.requires.order c.requires.misses c.in_ok-changed.ensures c.in_ok-least.ensures.certified)
    c.cost-cost.ensures.value (ap (λ (n : ℕ). n + 1) own) c.if-least-wanted.false (c.lack-lack.ensures.value ∙ ap (λ (p : PricedPlan). lack_at p.table j) c.self.view_is)
    (c.penalty-penalty.ensures.value ∙ ap (λ (p : PricedPlan). penalty_at p.table j) c.self.view_is) (ap (λ (k : ℕ). n + c.penalty-penalty.result * k) c.from.ensures)).best
