-- What plans cost where an order lacks one wagon less.
use Rattle.std.proofs.Common.{◌≡◌, ◌∙◌, ◌+◌, ◌-◌, ◌*◌, ◌<◌, ◌≤◌, ℕ, zero, suc, cond, List, [], ◌∷◌, inl, inr, ap, arith, refl, sym, subst}
use Rattle.std.specs.Prelude.{◌==◌, ◌≢◌, slice_set}
use Rattle.std.proofs.lemmas.Bool.{cases_Bool, cases_lt}
use Rattle.std.proofs.lemmas.Bool.Decides.{nat_tests}
use Rattle.std.proofs.lemmas.List.{get_or-set_other, get_or-set_same, length-set, set-get_or}
use Rattle.std.proofs.lemmas.List.Sums.{sum_by-cons}
use Rattle.cost_table.specs.Table.{Table, cost_at, lack_at, order_count, penalty_at, wagon_count}
use Rattle.cost_table.specs.TableLimits.{IsTable}
use Rattle.cost_table.specs.Plan.{AllAllowed, IsPlan, cost_of, missed_cost, pair_cost, serves, sum_below, uses}
use Rattle.cost_table.proofs.Sums.{sum_below-le, sum_below-same}
use Rattle.plan_bounds.specs.PricedPlan.{PricedPlan}
use Rattle.plan_bounds.specs.Changes.{with_lack}
use Rattle.plan_bounds.proofs.OtherTables.{one_more_costs_the_price}
use Rattle.exact_costs.specs.LeastCosts.{IsAny, IsLeastOver}
use Rattle.exact_costs.specs.inner.Certified.{IsCertifiedCost}
use Rattle.exact_costs.specs.inner.Changed.{without_penalty}
use Rattle.exact_costs.proofs.Sums.{serves-here, serves-other}
use Rattle.exact_costs.proofs.Removed.{remove_order}

-- ---- one wagon less costs no more

set_twice : (xs : List ℕ) (i a b : ℕ) → slice_set (slice_set xs i a) i b ≡ slice_set xs i b
set_twice [] i a b = refl
set_twice (x ∷ xs) zero a b = refl
set_twice (x ∷ xs) (suc i) a b = ap (λ (rest : List ℕ). x ∷ rest) (set_twice xs i a b)

-- one wagon less, and then one more, is the same table
less_and_more : (t : Table) (j : ℕ) → j < order_count t → 1 ≤ lack_at t j
    → with_lack (with_lack t j (lack_at t j - 1)) j (lack_at (with_lack t j (lack_at t j - 1)) j + 1) ≡ t
less_and_more t j l lacks =
    let less = get_or-set_same t.lacks j (lack_at t j - 1) 0 l in
    let more : lack_at (with_lack t j (lack_at t j - 1)) j + 1 ≡ lack_at t j = omega (arith, less, lacks) in
    let same : slice_set (slice_set t.lacks j (lack_at t j - 1)) j (lack_at (with_lack t j (lack_at t j - 1)) j + 1) ≡ t.lacks
    = ap (slice_set (slice_set t.lacks j (lack_at t j - 1)) j) more ∙ (set_twice t.lacks j (lack_at t j - 1) (lack_at t j) ∙ set-get_or t.lacks j 0) in
    ap (λ (lacks : List ℕ). record t { lacks = lacks }) same

pub less_is_no_more : (t : Table) (j n : ℕ) → j < order_count t → 1 ≤ lack_at t j → IsCertifiedCost (with_lack t j (lack_at t j - 1)) n
    → (other : List (ℕ × ℕ)) → IsPlan t other → n ≤ cost_of t other
less_is_no_more t j n l lacks c other plan =
    let s = with_lack t j (lack_at t j - 1) in
    let p : PricedPlan = record { table = s; pairs = c.pairs; u = c.u; v = c.v } in
    let same = less_and_more t j l lacks in
    let orders = length-set t.lacks j (lack_at t j - 1) in
    let more = one_more_costs_the_price p c.certificate j (omega (arith, l, orders)) other (subst (λ (t : Table). IsPlan t other) (sym same) plan) in
    let there : cost_of (with_lack s j (lack_at s j + 1)) other ≡ cost_of t other = ap (λ (t : Table). cost_of t other) same in
    let cost = c.cost in
    omega (arith, more, there, cost)

-- ---- an order that lacks one wagon less lacks none: the same as if a wagon that it misses cost nothing

pub allowed_moves : (t s : Table) → wagon_count s ≡ wagon_count t → order_count s ≡ order_count t → ((k j : ℕ) → cost_at s k j ≡ cost_at t k j)
    → (ps : List (ℕ × ℕ)) → AllAllowed t ps → AllAllowed s ps
allowed_moves t s wagons orders costs [] h = tt
allowed_moves t s wagons orders costs (q ∷ ps) h =
    ((omega (arith, wagons, h.0.0), omega (arith, orders, h.0.1), (h.0.2.0, costs q.0 q.1 ∙ h.0.2.1)), allowed_moves t s wagons orders costs ps h.1)

none_missed : (p l s : ℕ) → l ≡ 0 → p * (l - s) ≡ 0
none_missed p l s e = let none : l - s ≡ 0 = omega (arith, e) in grind (arith, none)

no_price : (p n : ℕ) → p ≡ 0 → p * n ≡ 0
no_price p n e = grind (arith, e)

-- what the order misses costs nothing in both tables, and what others miss costs the same
record Settled (t : Table) (j : ℕ) (ps : List (ℕ × ℕ)) (k : ℕ) : Type 0 where
  both : missed_cost (with_lack t j 0) ps k ≡ missed_cost (without_penalty t j) ps k
  no_more : missed_cost (without_penalty t j) ps k ≤ missed_cost t ps k

settled : (t : Table) (j : ℕ) (ps : List (ℕ × ℕ)) (k : ℕ) → IsTable t → j < order_count t → Settled t j ps k
settled t j ps k legal l =
    let n = without_penalty t j in
    let z = with_lack t j 0 in
    let count = legal.penalty_count in
    elim (cases_Bool (k == j)) [
      | inl e ↦
          let is : k ≡ j = grind (arith, nat_tests, e) in
          let lack : lack_at z k ≡ 0 = ap (lack_at z) is ∙ get_or-set_same t.lacks j 0 0 l in
          let price : penalty_at n k ≡ 0 = ap (penalty_at n) is ∙ get_or-set_same t.penalties j 0 0 (omega (arith, l, count)) in
          let one = none_missed (penalty_at z k) (lack_at z k) (serves k ps) lack in
          let other = no_price (penalty_at n k) (lack_at n k - serves k ps) price in
          record { both = omega (arith, one, other); no_more = omega (arith, other) }
      | inr e ↦
          let others : k ≢ j = grind (arith, nat_tests, e) in
          let lack : lack_at z k ≡ lack_at t k = get_or-set_other t.lacks j k 0 0 others in
          let price : penalty_at n k ≡ penalty_at t k = get_or-set_other t.penalties j k 0 0 others in
          let one : missed_cost z ps k ≡ missed_cost t ps k = ap (λ (m : ℕ). penalty_at t k * (m - serves k ps)) lack in
          let other : missed_cost n ps k ≡ missed_cost t ps k = ap (λ (p : ℕ). p * (lack_at t k - serves k ps)) price in
          record { both = omega (arith, one, other); no_more = omega (arith, other) }
    ]

pub orders_stay : (t : Table) (j n : ℕ) → order_count (with_lack t j n) ≡ order_count t
orders_stay t j n = length-set t.lacks j n

-- so plans cost the same
cost_is : (t : Table) (j : ℕ) (ps : List (ℕ × ℕ)) → IsTable t → j < order_count t → cost_of (with_lack t j 0) ps ≡ cost_of (without_penalty t j) ps
cost_is t j ps legal l =
    let z = with_lack t j 0 in
    let orders : sum_below (order_count z) (missed_cost z ps) ≡ sum_below (order_count t) (missed_cost z ps) = ap (λ (m : ℕ). sum_below m (missed_cost z ps)) (orders_stay t j 0) in
    let missed = sum_below-same (order_count t) (missed_cost z ps) (missed_cost (without_penalty t j) ps) (λ k m. (settled t j ps k legal l).both) in
    omega (arith, orders, missed)

-- and no more than in the table itself
pub without_penalty_no_more : (t : Table) (j n : ℕ) → IsTable t → j < order_count t → IsLeastOver (without_penalty t j) IsAny n
    → (other : List (ℕ × ℕ)) → IsPlan t other → n ≤ cost_of t other
without_penalty_no_more t j n legal l best other plan =
    let s = without_penalty t j in
    let least = best.least other (record { allowed = allowed_moves t s refl refl (λ k j. refl) other plan.allowed; once = plan.once; within = plan.within }) tt in
    let missed = sum_below-le (order_count t) (missed_cost s other) (missed_cost t other) (λ k m. (settled t j other k legal l).no_more) in
    omega (arith, least, missed)

-- a plan that gives the order none is one of both tables
to_none : (t : Table) (j : ℕ) (ps : List (ℕ × ℕ)) → j < order_count t → IsPlan (without_penalty t j) ps → serves j ps ≡ 0 → IsPlan (with_lack t j 0) ps
to_none t j ps l plan none = record {
  allowed = allowed_moves (without_penalty t j) (with_lack t j 0) refl (orders_stay t j 0) (λ k j. refl) ps plan.allowed;
  once = plan.once;
  within = λ k m. elim (cases_Bool (k == j)) [
    | inl e ↦
        let is : k ≡ j = grind (arith, nat_tests, e) in
        let served : serves k ps ≡ serves j ps = ap (λ (n : ℕ). serves n ps) is in
        omega (arith, served, none)
    | inr e ↦
        let others : k ≢ j = grind (arith, nat_tests, e) in
        let lack : lack_at (with_lack t j 0) k ≡ lack_at t k = get_or-set_other t.lacks j k 0 0 others in
        let within = plan.within k (omega (arith, m, orders_stay t j 0)) in
        omega (arith, lack, within)
  ];
}

from_none : (t : Table) (j : ℕ) (ps : List (ℕ × ℕ)) → j < order_count t → IsPlan (with_lack t j 0) ps → IsPlan (without_penalty t j) ps
from_none t j ps l plan = record {
  allowed = allowed_moves (with_lack t j 0) (without_penalty t j) refl (sym (orders_stay t j 0)) (λ k j. refl) ps plan.allowed;
  once = plan.once;
  within = λ k m.
      let within = plan.within k (omega (arith, m, orders_stay t j 0)) in
      elim (cases_Bool (k == j)) [
        | inl e ↦
            let is : k ≡ j = grind (arith, nat_tests, e) in
            let lack : lack_at (with_lack t j 0) k ≡ 0 = ap (lack_at (with_lack t j 0)) is ∙ get_or-set_same t.lacks j 0 0 l in
            omega (arith, lack, within)
        | inr e ↦
            let others : k ≢ j = grind (arith, nat_tests, e) in
            let lack : lack_at (with_lack t j 0) k ≡ lack_at t k = get_or-set_other t.lacks j k 0 0 others in
            omega (arith, lack, within)
      ];
}

-- a plan becomes one that gives the order none, and costs no more where a wagon that it misses costs nothing
record Unserved (t : Table) (j : ℕ) (ps : List (ℕ × ℕ)) : Type 0 where
  rest : List (ℕ × ℕ)
  plan : IsPlan t rest
  none : serves j rest ≡ 0
  cheaper : cost_of t rest ≤ cost_of t ps
  no_more : (k : ℕ) → uses k rest ≤ uses k ps

unserve : (t : Table) (j : ℕ) (ps : List (ℕ × ℕ)) → j < order_count t → lack_at t j ≤ 1 → penalty_at t j ≡ 0 → IsPlan t ps → Unserved t j ps
unserve t j ps l lacks free plan =
    elim (cases_lt 0 (serves j ps)) [
      | inl some ↦
          let r = remove_order t j ps plan.allowed some in
          let rest = r.removed.rest in
          let served = λ (k : ℕ). r.removed.sums (λ (q : ℕ × ℕ). cond (q.1 == k) 1 0) ∙ sym (sum_by-cons (λ (q : ℕ × ℕ). cond (q.1 == k) 1 0) r.removed.pair rest) in
          let pairs = r.removed.sums (pair_cost t) in
          let missed = sum_below-le (order_count t) (missed_cost t rest) (missed_cost t ps) (λ k m. elim (cases_Bool (k == j)) [
            | inl e ↦
                let is : k ≡ j = grind (arith, nat_tests, e) in
                let nothing = no_price (penalty_at t k) (lack_at t k - serves k rest) (ap (penalty_at t) is ∙ free) in
                omega (arith, nothing)
            | inr e ↦
                let others : k ≢ j = grind (arith, nat_tests, e) in
                let there = serves-other k r.removed.pair rest (λ e. others (sym e ∙ r.order)) in
                let same : serves k rest ≡ serves k ps = sym (served k ∙ there) in
                let cost : missed_cost t rest k ≡ missed_cost t ps k = ap (λ (n : ℕ). penalty_at t k * (lack_at t k - n)) same in
                omega (arith, cost)
          ]) in
          record {
            rest = rest;
            plan = record {
              allowed = r.removed.rest_allowed;
              once = λ k. let used = r.removed.sums (λ (q : ℕ × ℕ). cond (q.0 == k) 1 0) in let once = plan.once k in omega (arith, used, once);
              within = λ k m. let all = r.removed.sums (λ (q : ℕ × ℕ). cond (q.1 == k) 1 0) in let within = plan.within k m in omega (arith, all, within);
            };
            none = let here = serves-here j r.removed.pair rest r.order in let all = served j in let within = plan.within j l in omega (arith, here, all, within, lacks);
            cheaper = omega (arith, pairs, missed);
            no_more = λ k. let used = r.removed.sums (λ (q : ℕ × ℕ). cond (q.0 == k) 1 0) in omega (arith, used);
          }
      | inr none ↦ record { rest = ps; plan = plan; none = omega (arith, none); cheaper = omega arith; no_more = λ k. omega arith }
    ]

unserved : (t : Table) (j n : ℕ) → IsTable t → j < order_count t → lack_at t j ≡ 1 → (best : IsLeastOver (without_penalty t j) IsAny n) → Unserved (without_penalty t j) j best.plan
unserved t j n legal l one best =
    let count = legal.penalty_count in
    unserve (without_penalty t j) j best.plan l (omega (arith, one)) (get_or-set_same t.penalties j 0 0 (omega (arith, l, count))) best.of_table

pub none_lacking : (t : Table) (j n : ℕ) → IsTable t → j < order_count t → lack_at t j ≡ 1 → IsLeastOver (without_penalty t j) IsAny n → IsLeastOver (with_lack t j 0) IsAny n
none_lacking t j n legal l one best =
    let un = unserved t j n legal l one best in
    let least = best.least un.rest un.plan tt in
    let cheaper = un.cheaper in
    let costs = best.costs in
    let same = cost_is t j un.rest legal l in
    record {
      plan = un.rest;
      of_table = to_none t j un.rest l un.plan un.none;
      is_so = tt;
      costs = omega (arith, least, cheaper, costs, same);
      least = λ other plan so.
          let least = best.least other (from_none t j other l plan) tt in
          let same = cost_is t j other legal l in
          omega (arith, least, same);
    }

-- and no wagon goes more often
pub none_lacking_uses : (t : Table) (j n : ℕ) (legal : IsTable t) (l : j < order_count t) (one : lack_at t j ≡ 1) (best : IsLeastOver (without_penalty t j) IsAny n) (k : ℕ)
    → uses k (none_lacking t j n legal l one best).plan ≤ uses k best.plan
unfolding none_lacking
none_lacking_uses t j n legal l one best k = (unserved t j n legal l one best).no_more k
