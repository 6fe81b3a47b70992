-- The best plan with a pair is the pair and the best plan where the order lacks one wagon less, if the wagon goes nowhere there.
use Rattle.std.proofs.Common.{◌≡◌, ◌∙◌, ◌+◌, ◌-◌, ◌*◌, ◌<◌, ◌≤◌, ℕ, Bool, true, false, List, ◌∷◌, Some, inl, inr, ap, arith, refl, sym, subst}
use Rattle.std.specs.Prelude.{◌==◌, ◌≢◌, if◌then◌else◌, unwrap_or}
use Rattle.std.specs.List.{sum_by}
use Rattle.std.proofs.lemmas.Bool.{cases_Bool}
use Rattle.std.proofs.lemmas.Bool.Decides.{nat_tests}
use Rattle.std.proofs.lemmas.List.{get_or-set_other, get_or-set_same}
use Rattle.std.proofs.lemmas.List.Sums.{sum_by-cons}
use Rattle.cost_table.specs.Table.{Table, cost_at, lack_at, order_count, penalty_at}
use Rattle.cost_table.specs.TableLimits.{IsTable}
use Rattle.cost_table.specs.Plan.{IsAllowed, IsPlan, cost_of, missed_cost, pair_cost, serves, sum_below, uses}
use Rattle.cost_table.proofs.Sums.{sum_below-same}
use Rattle.price_checker.specs.Certificate.{IsCertificate}
use Rattle.plan_bounds.specs.PricedPlan.{IsCertified, PricedPlan, certified_cost}
use Rattle.plan_bounds.specs.Changes.{with_lack}
use Rattle.plan_bounds.specs.Bounds.{HasPair}
use Rattle.exact_costs.specs.LeastCosts.{IsAny, IsLeastOver}
use Rattle.exact_costs.specs.OrderCosts.{OrderCostsValue}
use Rattle.exact_costs.specs.inner.Certified.{IsCertifiedCost}
use Rattle.exact_costs.specs.inner.Changed.{one_less, without_penalty}
use Rattle.exact_costs.specs.inner.OneLess.{IsOneLess}
use Rattle.exact_costs.proofs.Sums.{serves-here, serves-other, uses-here, uses-other}
use Rattle.exact_costs.proofs.Pairs.{IsBeside, in_front}
use Rattle.exact_costs.proofs.Lacks.{allowed_moves, none_lacking, none_lacking_uses, orders_stay}
use Rattle.exact_costs.proofs.Best.{IsLess, IsWithPair, certified_is_least, less_by_lack, less_by_price, no_less, rest_of}

-- the table in which order j lacks one wagon less
abbrev less : Table → (j : ℕ) → Table
less t j = with_lack t j (lack_at t j - 1)

lack_here : (t : Table) (j k : ℕ) → j < order_count t → j ≡ k → lack_at (less t j) k ≡ lack_at t k - 1
lack_here t j k l e =
    let there = get_or-set_same t.lacks j (lack_at t j - 1) 0 l in
    ap (lack_at (less t j)) (sym e) ∙ (there ∙ ap (λ (k : ℕ). lack_at t k - 1) e)

lack_other : (t : Table) (j k : ℕ) → j ≢ k → lack_at (less t j) k ≡ lack_at t k
lack_other t j k other = get_or-set_other t.lacks j k (lack_at t j - 1) 0 (λ e. other (sym e))

-- ---- plans of both tables

add_pair : (t : Table) (i j : ℕ) (rest : List (ℕ × ℕ)) → IsAllowed t (i, j) → 1 ≤ lack_at t j → IsPlan (less t j) rest → uses i rest ≡ 0 → IsPlan t ((i, j) ∷ rest)
add_pair t i j rest h lacks plan idle = record {
  allowed = (h, allowed_moves (less t j) t refl (sym (orders_stay t j (lack_at t j - 1))) (λ k l. refl) rest plan.allowed);
  once = λ k. elim (cases_Bool (i == k)) [
    | inl e ↦
        let is : i ≡ k = grind (arith, nat_tests, e) in
        let here = uses-here k (i, j) rest is in
        let none : uses k rest ≡ 0 = ap (λ (n : ℕ). uses n rest) (sym is) ∙ idle in
        omega (arith, here, none)
    | inr e ↦
        let other : i ≢ k = grind (arith, nat_tests, e) in
        let there = uses-other k (i, j) rest other in
        let once = plan.once k in
        omega (arith, there, once)
  ];
  within = λ k m.
      let within = plan.within k (omega (arith, m, orders_stay t j (lack_at t j - 1))) in
      elim (cases_Bool (j == k)) [
        | inl e ↦
            let is : j ≡ k = grind (arith, nat_tests, e) in
            let here = serves-here k (i, j) rest is in
            let lack = lack_here t j k h.1 is in
            let some : 1 ≤ lack_at t k = subst (λ (n : ℕ). 1 ≤ lack_at t n) is lacks in
            omega (arith, within, here, lack, some)
        | inr e ↦
            let other : j ≢ k = grind (arith, nat_tests, e) in
            let there = serves-other k (i, j) rest other in
            let lack = lack_other t j k other in
            omega (arith, within, there, lack)
      ];
}

drop_pair : (t : Table) (i j : ℕ) (rest : List (ℕ × ℕ)) → j < order_count t → IsBeside t i j rest → IsPlan (less t j) rest
drop_pair t i j rest l b = record {
  allowed = allowed_moves t (less t j) refl (orders_stay t j (lack_at t j - 1)) (λ k l. refl) rest b.plan.allowed.1;
  once = λ k.
      let once = b.plan.once k in
      elim (cases_Bool (i == k)) [
        | inl e ↦
            let is : i ≡ k = grind (arith, nat_tests, e) in
            let here = uses-here k (i, j) rest is in
            omega (arith, here, once)
        | inr e ↦
            let other : i ≢ k = grind (arith, nat_tests, e) in
            let there = uses-other k (i, j) rest other in
            omega (arith, there, once)
      ];
  within = λ k m.
      let within = b.plan.within k (omega (arith, m, orders_stay t j (lack_at t j - 1))) in
      elim (cases_Bool (j == k)) [
        | inl e ↦
            let is : j ≡ k = grind (arith, nat_tests, e) in
            let here = serves-here k (i, j) rest is in
            let lack = lack_here t j k l is in
            omega (arith, within, here, lack)
        | inr e ↦
            let other : j ≢ k = grind (arith, nat_tests, e) in
            let there = serves-other k (i, j) rest other in
            let lack = lack_other t j k other in
            omega (arith, within, there, lack)
      ];
}

-- ---- their costs

same_missed : (t : Table) (i j : ℕ) (rest : List (ℕ × ℕ)) (k : ℕ) → j < order_count t → missed_cost t ((i, j) ∷ rest) k ≡ missed_cost (less t j) rest k
same_missed t i j rest k l =
    elim (cases_Bool (j == k)) [
      | inl e ↦
          let is : j ≡ k = grind (arith, nat_tests, e) in
          let here = serves-here k (i, j) rest is in
          let lack = lack_here t j k l is in
          let missing : lack_at t k - serves k ((i, j) ∷ rest) ≡ lack_at (less t j) k - serves k rest = omega (arith, here, lack) in
          ap (λ (n : ℕ). penalty_at t k * n) missing
      | inr e ↦
          let other : j ≢ k = grind (arith, nat_tests, e) in
          let there = serves-other k (i, j) rest other in
          let lack = lack_other t j k other in
          let missing : lack_at t k - serves k ((i, j) ∷ rest) ≡ lack_at (less t j) k - serves k rest = omega (arith, there, lack) in
          ap (λ (n : ℕ). penalty_at t k * n) missing
    ]

cost_beside : (t : Table) (i j km : ℕ) (rest : List (ℕ × ℕ)) → j < order_count t → cost_at t i j ≡ Some km → cost_of t ((i, j) ∷ rest) ≡ cost_of (less t j) rest + km
cost_beside t i j km rest l is =
    let cost : pair_cost t (i, j) ≡ km = ap (λ o. unwrap_or o 0) is in
    let orders : sum_below (order_count (less t j)) (missed_cost (less t j) rest) ≡ sum_below (order_count t) (missed_cost (less t j) rest)
    = ap (λ (m : ℕ). sum_below m (missed_cost (less t j) rest)) (orders_stay t j (lack_at t j - 1)) in
    let missed = sum_below-same (order_count t) (missed_cost t ((i, j) ∷ rest)) (missed_cost (less t j) rest) (λ k m. same_missed t i j rest k l) in
    omega (arith, cost, orders, missed, sum_by-cons (pair_cost t) (i, j) rest)

-- ---- so the best plan with the pair

pair_beside : (t : Table) (i j km n : ℕ) → IsTable t → IsAllowed t (i, j) → cost_at t i j ≡ Some km → (best : IsLeastOver (less t j) IsAny n) → uses i best.plan ≡ 0 → IsLeastOver t (HasPair i j) (n + km)
pair_beside t i j km n legal h is best idle =
    let lacks : 1 ≤ lack_at t j = (legal.lacks j 0 h.1).0 in
    let cost = cost_beside t i j km best.plan h.1 is in
    let costs = best.costs in
    record {
      plan = (i, j) ∷ best.plan;
      of_table = add_pair t i j best.plan h lacks best.of_table idle;
      is_so = (0, omega arith, refl);
      costs = omega (arith, cost, costs);
      least = λ other plan has.
          let front = in_front t i j other plan has in
          let least = best.least front.rest (drop_pair t i j front.rest h.1 front.is_beside) tt in
          let cost = cost_beside t i j km front.rest h.1 is in
          let same = front.cost in
          omega (arith, least, cost, same);
    }

-- ---- the best plan where the order lacks one wagon less, by the table that was planned

-- it costs n, and the wagon is idle
record BestIdle (t : Table) (i j lack n : ℕ) : Type 0 where
  best : IsLeastOver (with_lack t j lack) IsAny n
  idle : uses i best.plan ≡ 0

idle_by_price : (t : Table) (i j n : ℕ) (pairs : List (ℕ × ℕ)) (u v : List ℕ) → IsTable t → j < order_count t → lack_at t j ≡ 1
    → IsCertificate (without_penalty t j) pairs u v → cost_of (without_penalty t j) pairs ≡ n → uses i pairs ≡ 0 → BestIdle t i j (lack_at t j - 1) n
unfolding certified_is_least
idle_by_price t i j n pairs u v legal l one certificate costs idle =
    let certified : IsCertifiedCost (without_penalty t j) n = record { pairs = pairs; u = u; v = v; certificate = certificate; cost = costs } in
    let best = certified_is_least (without_penalty t j) n certified in
    let no_more : uses i (none_lacking t j n legal l one best).plan ≤ uses i pairs = none_lacking_uses t j n legal l one best i in
    let none : 0 ≡ lack_at t j - 1 = omega (arith, one) in
    subst (λ (lack : ℕ). BestIdle t i j lack n) none (record { best = none_lacking t j n legal l one best; idle = omega (arith, no_more, idle) })

idle_by_lack : (t : Table) (i j n : ℕ) (pairs : List (ℕ × ℕ)) (u v : List ℕ)
    → IsCertificate (with_lack t j (lack_at t j - 1)) pairs u v → cost_of (with_lack t j (lack_at t j - 1)) pairs ≡ n → uses i pairs ≡ 0 → BestIdle t i j (lack_at t j - 1) n
unfolding certified_is_least
idle_by_lack t i j n pairs u v certificate costs idle =
    let s = with_lack t j (lack_at t j - 1) in
    let certified : IsCertifiedCost s n = record { pairs = pairs; u = u; v = v; certificate = certificate; cost = costs } in
    record { best = certified_is_least s n certified; idle = idle }

best_idle : (t : Table) (i j n : ℕ) (pairs : List (ℕ × ℕ)) (u v : List ℕ) (is : Bool) → (lack_at t j == 1) ≡ is → IsTable t → j < order_count t
    → IsCertificate (if is then without_penalty t j else with_lack t j (lack_at t j - 1)) pairs u v → cost_of (if is then without_penalty t j else with_lack t j (lack_at t j - 1)) pairs ≡ n
    → uses i pairs ≡ 0 → BestIdle t i j (lack_at t j - 1) n
best_idle t i j n pairs u v true e legal l certificate costs idle = idle_by_price t i j n pairs u v legal l (grind (arith, nat_tests, e)) certificate costs idle
best_idle t i j n pairs u v false e legal l certificate costs idle = idle_by_lack t i j n pairs u v certificate costs idle

-- ---- what a call answers

-- a plan of the table that is made of a plan as it is kept
pub is_one_less : (q p : PricedPlan) → q ≡ p → (j : ℕ) (less : PricedPlan) → IsTable p.table → j < order_count p.table → less.table ≡ one_less p.table j → IsCertified less → IsOneLess q j less
is_one_less q p view j less legal order table certified =
    subst (λ (p : PricedPlan). IsOneLess p j less) (sym view) (record { legal = legal; order = order; table = table; certified = certified })

pub with_idle_is : (q o : OrderCostsValue) → q ≡ o → IsCertified q.priced → IsOneLess o.priced o.order o.less → (i km cost n : ℕ) → cost ≡ certified_cost q.priced → n ≡ certified_cost o.less
    → uses i o.less.pairs ≡ 0 → IsAllowed o.priced.table (i, o.order) → cost_at o.priced.table i o.order ≡ Some km → IsWithPair o.priced i o.order (n + km) cost
with_idle_is q o view certified one i km cost n is_cost is_least idle allowed is =
    let p = o.priced in
    let j = o.order in
    let own : IsCertified p = subst (λ (o : OrderCostsValue). IsCertified o.priced) view certified in
    let e : cost ≡ certified_cost p = is_cost ∙ ap (λ (o : OrderCostsValue). certified_cost o.priced) view in
    let certificate : IsCertificate (one_less p.table j) o.less.pairs o.less.u o.less.v = subst (λ (t : Table). IsCertificate t o.less.pairs o.less.u o.less.v) one.table one.certified in
    let costs : cost_of (one_less p.table j) o.less.pairs ≡ n = sym (is_least ∙ ap (λ (t : Table). cost_of t o.less.pairs) one.table) in
    let found = best_idle p.table i j n o.less.pairs o.less.u o.less.v (lack_at p.table j == 1) refl one.legal one.order certificate costs idle in
    let best = pair_beside p.table i j km n one.legal allowed is found.best found.idle in
    let le = no_less p own (HasPair i j) (n + km) best in
    record { no_less = omega (arith, e, le); best = rest_of p p.table (HasPair i j) (n + km) cost e le best }

-- what the best plan costs where the order lacks one wagon less, by the table that was planned
pub less_by : (t : Table) (j n : ℕ) (changed : Table) → IsTable t → j < order_count t → changed ≡ one_less t j → IsCertifiedCost changed n → IsLess t j n
less_by t j n changed legal l made certified = less_if_so (lack_at t j == 1) refl made where
  less_if_so : (is : Bool) → (lack_at t j == 1) ≡ is → changed ≡ (if is then without_penalty t j else with_lack t j (lack_at t j - 1)) → IsLess t j n
  less_if_so true e made = less_by_price t j (lack_at t j) n changed legal l refl (grind (arith, nat_tests, e)) made certified
  less_if_so false e made = less_by_lack t j (lack_at t j) n changed legal l refl made certified
