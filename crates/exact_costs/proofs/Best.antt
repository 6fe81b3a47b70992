-- What the best plans cost more or less than the certified one.
use Rattle.std.proofs.Common.{◌≡◌, ◌∙◌, ◌+◌, ◌-◌, ◌<◌, ◌≤◌, ℕ, List, [], Some, ap, arith, subst, sym}
use Rattle.cost_table.specs.Table.{Table, cost_at, lack_at, order_count, wagon_count}
use Rattle.cost_table.specs.TableLimits.{IsTable}
use Rattle.cost_table.specs.TableRows.{costs_of}
use Rattle.cost_table.specs.Plan.{IsAllowed}
use Rattle.price_checker.proofs.Duality.{certificates_optimal}
use Rattle.plan_bounds.specs.PricedPlan.{IsCertified, PricedPlan, certified_cost}
use Rattle.plan_bounds.specs.Changes.{with_lack, without_wagon}
use Rattle.plan_bounds.specs.Bounds.{HasPair, IsIdle}
use Rattle.plan_bounds.proofs.OtherTables.{one_more_costs_the_price}
use Rattle.exact_costs.specs.LeastCosts.{BestCostsMore, BestOfCostsLess, BestOfCostsMore, IsAny, IsLeastOver}
use Rattle.exact_costs.specs.inner.Certified.{IsCertifiedCost, IsNoMore}
use Rattle.exact_costs.specs.inner.Changed.{with_costs, with_free_pair, without_penalty}
use Rattle.exact_costs.proofs.ChangedTables.{no_costs}
use Rattle.exact_costs.proofs.Idle.{idle_is_without}
use Rattle.exact_costs.proofs.Lacks.{less_is_no_more, none_lacking, without_penalty_no_more}
use Rattle.exact_costs.proofs.Pairs.{pair_is_free}

unfoldable pub certified_is_least : (t : Table) (n : ℕ) → IsCertifiedCost t n → IsLeastOver t IsAny n
certified_is_least t n c = record {
  plan = c.pairs;
  of_table = c.certificate.plan;
  is_so = tt;
  costs = c.cost;
  least = λ other plan so.
      let least = (certificates_optimal t c.pairs c.u c.v c.certificate).1 other plan in
      let cost = c.cost in
      omega (arith, least, cost);
}

-- a least cost n that is no less than the certified one is that and the rest
rest_is : (p : PricedPlan) (table : Table) (IsSo : List (ℕ × ℕ) → Type 0) (n : ℕ) → certified_cost p ≤ n → IsLeastOver table IsSo n
    → IsLeastOver table IsSo (certified_cost p + (n - certified_cost p))
rest_is p table IsSo n le least =
    let whole : n ≡ certified_cost p + (n - certified_cost p) = omega (arith, le) in
    subst (IsLeastOver table IsSo) whole least

-- a plan of the table that is so costs no less than the certified one
pub no_less : (p : PricedPlan) → IsCertified p → (IsSo : List (ℕ × ℕ) → Type 0) (n : ℕ) → IsLeastOver p.table IsSo n → certified_cost p ≤ n
no_less p c IsSo n least =
    let best = (certificates_optimal p.table p.pairs p.u p.v c).1 least.plan least.of_table in
    let costs = least.costs in
    omega (arith, best, costs)

-- the same where a call answers the certified cost
pub rest_of : (p : PricedPlan) (table : Table) (IsSo : List (ℕ × ℕ) → Type 0) (n cost : ℕ) → cost ≡ certified_cost p → certified_cost p ≤ n → IsLeastOver table IsSo n
    → IsLeastOver table IsSo (certified_cost p + (n - cost))
rest_of p table IsSo n cost e le least = subst (λ (cost : ℕ). IsLeastOver table IsSo (certified_cost p + (n - cost))) (sym e) (rest_is p table IsSo n le least)

-- ---- without a wagon

pub record IsWithout (p : PricedPlan) (i n cost : ℕ) : Type 0 where
  pub no_less : cost ≤ n
  pub idle : BestCostsMore p (IsIdle i) (n - cost)
  pub without : BestOfCostsMore p (without_wagon p.table i) (n - cost)

pub without_is : (p : PricedPlan) → IsCertified p → (i n cost : ℕ) → cost ≡ certified_cost p → i < wagon_count p.table → IsCertifiedCost (without_wagon p.table i) n → IsWithout p i n cost
without_is p c i n cost e l certified =
    let best = certified_is_least (without_wagon p.table i) n certified in
    let idle = idle_is_without p.table i n l best in
    let le = no_less p c (IsIdle i) n idle in
    record {
      no_less = omega (arith, e, le);
      idle = rest_of p p.table (IsIdle i) n cost e le idle;
      without = rest_of p (without_wagon p.table i) IsAny n cost e le best;
    }

-- the same by the table that was planned, which was made of the plan as it is kept
pub without_found : {q : PricedPlan} (p : PricedPlan) → IsCertified p → q ≡ p → (i n cost : ℕ) (changed : Table) → cost ≡ certified_cost p → i < wagon_count p.table
    → changed ≡ with_costs q.table i (costs_of (order_count q.table) []) → IsCertifiedCost changed n → IsWithout p i n cost
without_found p c view i n cost changed e l made certified =
    let same : changed ≡ without_wagon p.table i =
    made ∙ (ap (λ (p : PricedPlan). with_costs p.table i (costs_of (order_count p.table) [])) view ∙ ap (with_costs p.table i) (no_costs (order_count p.table))) in
    without_is p c i n cost e l (subst (λ (t : Table). IsCertifiedCost t n) same certified)

-- ---- with a pair

pub record IsWithPair (p : PricedPlan) (i j n cost : ℕ) : Type 0 where
  pub no_less : cost ≤ n
  pub best : BestCostsMore p (HasPair i j) (n - cost)

pub with_pair_is : (p : PricedPlan) → IsCertified p → (i j km n cost : ℕ) → cost ≡ certified_cost p → IsTable p.table → IsAllowed p.table (i, j) → cost_at p.table i j ≡ Some km
    → IsCertifiedCost (with_free_pair p.table i j) n → IsWithPair p i j (n + km) cost
with_pair_is p c i j km n cost e legal allowed is certified =
    let best = pair_is_free p.table i j km n legal allowed is (certified_is_least (with_free_pair p.table i j) n certified) in
    let le = no_less p c (HasPair i j) (n + km) best in
    record { no_less = omega (arith, e, le); best = rest_of p p.table (HasPair i j) (n + km) cost e le best }

pub with_pair_found : {q : PricedPlan} (p : PricedPlan) → IsCertified p → q ≡ p → (i j km n cost : ℕ) (changed : Table) → cost ≡ certified_cost p → IsTable q.table → IsAllowed p.table (i, j)
    → cost_at p.table i j ≡ Some km → changed ≡ with_free_pair q.table i j → IsCertifiedCost changed n → IsWithPair p i j (n + km) cost
with_pair_found p c view i j km n cost changed e legal allowed is made certified =
    let same : changed ≡ with_free_pair p.table i j = made ∙ ap (λ (p : PricedPlan). with_free_pair p.table i j) view in
    with_pair_is p c i j km n cost e (subst (λ (p : PricedPlan). IsTable p.table) view legal) allowed is (subst (λ (t : Table). IsCertifiedCost t n) same certified)

-- ---- where an order lacks one wagon more or less

pub record IsWithMore (p : PricedPlan) (j n cost : ℕ) : Type 0 where
  pub no_less : cost ≤ n
  pub best : BestOfCostsMore p (with_lack p.table j (lack_at p.table j + 1)) (n - cost)

pub with_more_is : (p : PricedPlan) → IsCertified p → (j n cost : ℕ) → cost ≡ certified_cost p → j < order_count p.table
    → IsCertifiedCost (with_lack p.table j (lack_at p.table j + 1)) n → IsWithMore p j n cost
with_more_is p c j n cost e l certified =
    let t = with_lack p.table j (lack_at p.table j + 1) in
    let more = one_more_costs_the_price p c j l certified.pairs certified.certificate.plan in
    let same = certified.cost in
    let le : certified_cost p ≤ n = omega (arith, more, same) in
    record { no_less = omega (arith, e, le); best = rest_of p t IsAny n cost e le (certified_is_least t n certified) }

pub with_more_found : (q p : PricedPlan) → IsCertified p → q ≡ p → (j n cost lack : ℕ) (changed : Table) → cost ≡ certified_cost p → j < order_count p.table
    → lack ≡ lack_at q.table j → changed ≡ with_lack q.table j (lack + 1) → IsCertifiedCost changed n → IsWithMore p j n cost
with_more_found q p c view j n cost lack changed e l lacks made certified =
    let same : changed ≡ with_lack p.table j (lack_at p.table j + 1) =
    made ∙ (ap (λ (lack : ℕ). with_lack q.table j (lack + 1)) lacks ∙ ap (λ (p : PricedPlan). with_lack p.table j (lack_at p.table j + 1)) view) in
    with_more_is p c j n cost e l (subst (λ (t : Table). IsCertifiedCost t n) same certified)

-- what the best plan costs where order j lacks one wagon less, which no plan of the table passes
pub record IsLess (t : Table) (j n : ℕ) : Type 0 where
  pub best : IsLeastOver (with_lack t j (lack_at t j - 1)) IsAny n
  pub no_more : IsNoMore t n

pub less_by_price : (t : Table) (j lack n : ℕ) (changed : Table) → IsTable t → j < order_count t → lack ≡ lack_at t j → lack ≡ 1 → changed ≡ without_penalty t j → IsCertifiedCost changed n → IsLess t j n
less_by_price t j lack n changed legal l is one made certified =
    let best = certified_is_least (without_penalty t j) n (subst (λ (t : Table). IsCertifiedCost t n) made certified) in
    let lacks : lack_at t j ≡ 1 = sym is ∙ one in
    let none : 0 ≡ lack_at t j - 1 = omega (arith, lacks) in
    record {
      best = subst (λ (lack : ℕ). IsLeastOver (with_lack t j lack) IsAny n) none (none_lacking t j n legal l lacks best);
      no_more = without_penalty_no_more t j n legal l best;
    }

pub less_by_lack : (t : Table) (j lack n : ℕ) (changed : Table) → IsTable t → j < order_count t → lack ≡ lack_at t j → changed ≡ with_lack t j (lack - 1) → IsCertifiedCost changed n → IsLess t j n
less_by_lack t j lack n changed legal l is made certified =
    let less : IsCertifiedCost (with_lack t j (lack_at t j - 1)) n = subst (λ (t : Table). IsCertifiedCost t n) (made ∙ ap (λ (lack : ℕ). with_lack t j (lack - 1)) is) certified in
    record {
      best = certified_is_least (with_lack t j (lack_at t j - 1)) n less;
      no_more = less_is_no_more t j n l (legal.lacks j 0 l).0 less;
    }

pub record IsWithLess (p : PricedPlan) (table : Table) (n cost : ℕ) : Type 0 where
  pub no_more : n ≤ cost
  pub best : BestOfCostsLess p table (cost - n)

pub with_less_is : (p : PricedPlan) → IsCertified p → (table : Table) (n cost : ℕ) → cost ≡ certified_cost p → IsNoMore p.table n → IsLeastOver table IsAny n → IsWithLess p table n cost
with_less_is p c table n cost e no_more best =
    let le = no_more p.pairs c.plan in
    record { no_more = omega (arith, e, le); best = record { cost = n; best = best; less = omega (arith, e, le) } }
