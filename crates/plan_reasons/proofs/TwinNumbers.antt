-- What plans cost more that have a pair, by what was found of a twin.
use Rattle.std.proofs.Common.{◌≡◌, ℕ, List, subst}
use Rattle.std.specs.Prelude.{All}
use Rattle.cost_table.specs.Table.{Table}
use Rattle.plan_bounds.specs.Bounds.{HasPair}
use Rattle.exact_costs.specs.LeastCosts.{BestCostsMore}
use Rattle.exact_costs.proofs.Twins.{twins_cost_the_same}
use Rattle.plan_reasons.specs.declared.fit.Fit.{Fit}
use Rattle.plan_reasons.specs.declared.numbers.Numbers.TheVariants.{Exact}
use Rattle.plan_reasons.specs.CertifiedPlan.{CertifiedPlanValue}
use Rattle.plan_reasons.specs.inner.AddedPairs.{IsFoundFit}
use Rattle.plan_reasons.specs.inner.Twins.{IsOfTwin}

pub twin_more : (planned : CertifiedPlanValue) (t : Table) (found : List Fit) (pair : ℕ × ℕ) (more : ℕ) → t ≡ planned.priced.table → All (IsFoundFit Exact planned) found → IsOfTwin t found pair more
    → BestCostsMore planned.priced (HasPair pair.0 pair.1) more
twin_more planned t found pair more same all of =
    let p = planned.priced in
    let is = subst (λ (t : Table). IsOfTwin t found pair more) same of in
    let own : IsFoundFit Exact planned is.fit = subst (IsFoundFit Exact planned) is.there.2 (all is.there.0 is.fit is.there.1) in
    let twins = is.twins in
    let here = twins_cost_the_same p is.fit.pair.0 pair.0 is.fit.pair.1 is.fit.more twins.first twins.second twins.row own.1 in
    subst (λ (j : ℕ). BestCostsMore p (HasPair pair.0 j) more) twins.order (subst (BestCostsMore p (HasPair pair.0 is.fit.pair.1)) is.found_more here)
