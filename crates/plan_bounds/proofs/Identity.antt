-- The cost of a plan is that of the certified one and the plan's slacks.
use Rattle.std.proofs.Common.{◌≡◌, ◌+◌, ◌-◌, ◌*◌, ◌≤◌, ℕ, cond, List, [], ◌∷◌, ap, arith}
use Rattle.std.specs.Prelude.{◌==◌, slice_index, unwrap_or}
use Rattle.std.specs.List.{sum, sum_by}
use Rattle.std.proofs.lemmas.List.Sums.{sum_by-cons}
use Rattle.std.proofs.lemmas.Bool.Decides.{nat_tests}
use Rattle.cost_table.specs.Table.{lack_at, order_count, penalty_at, wagon_count}
use Rattle.cost_table.specs.Plan.{AllAllowed, IsPlan, missed_cost, pair_cost, serves, sum_below, uses}
use Rattle.cost_table.proofs.Sums.{distributes, double_count, sum_below-add, sum_below-same}
use Rattle.cost_table.proofs.CostLemmas.{orders_below, wagons_below}
use Rattle.plan_bounds.specs.PricedPlan.{IsCertified, PricedPlan}
use Rattle.plan_bounds.specs.Slack.{idle_price, missed, refusal_slack, slack}
use Rattle.plan_bounds.specs.Laws.{SlacksAreTheDifference, SlacksAreWhole}
use Rattle.plan_bounds.proofs.Sums.{sum_below-list}

-- pair by pair, the costs and the wagons' prices are the orders' prices and the slacks
pairs_split : (p : PricedPlan) → IsCertified p → (ps : List (ℕ × ℕ)) → AllAllowed p.table ps
    → sum_by (pair_cost p.table) ps + sum_by (λ (q : ℕ × ℕ). slice_index p.u q.0) ps ≡ sum_by (λ (q : ℕ × ℕ). slice_index p.v q.1) ps + sum_by (slack p) ps
pairs_split p c [] h = omega arith
pairs_split p c (q ∷ ps) h =
    let i = pairs_split p c ps h.1 in
    let gap : slice_index p.v q.1 ≤ h.0.2.0 + slice_index p.u q.0 = c.no_gap q.0 q.1 h.0.2.0 h.0.0 h.0.1 h.0.2.1 in
    let cost : pair_cost p.table q ≡ h.0.2.0 = ap (λ o. unwrap_or o 0) h.0.2.1 in
    let one : pair_cost p.table q + slice_index p.u q.0 ≡ slice_index p.v q.1 + slack p q = omega (arith, gap, cost) in
    let costs = sum_by-cons (pair_cost p.table) q ps in
    let us = sum_by-cons (λ (q : ℕ × ℕ). slice_index p.u q.0) q ps in
    let vs = sum_by-cons (λ (q : ℕ × ℕ). slice_index p.v q.1) q ps in
    let slacks = sum_by-cons (slack p) q ps in
    omega (arith, i, one, costs, us, vs, slacks)

used_or_idle : (n x : ℕ) → n ≤ 1 → x ≡ n * x + cond (n == 0) x 0
used_or_idle n x once = grind (arith, nat_tests, once)

-- the prices of all wagons are those of the wagons that go and of those that are idle
wagons_split : (p : PricedPlan) → IsCertified p → (ps : List (ℕ × ℕ)) → IsPlan p.table ps
    → sum p.u ≡ sum_by (λ (q : ℕ × ℕ). slice_index p.u q.0) ps + sum_below (wagon_count p.table) (idle_price p ps)
wagons_split p c ps plan =
    let n = wagon_count p.table in
    let all = sum_below-list p.u n c.wagons in
    let each = sum_below-same n (slice_index p.u) (λ i. uses i ps * slice_index p.u i + idle_price p ps i) (λ i l. used_or_idle (uses i ps) (slice_index p.u i) (plan.once i)) in
    let parts = sum_below-add n (λ i. uses i ps * slice_index p.u i) (idle_price p ps) in
    let count = double_count (λ p. p.0) (slice_index p.u) n ps (wagons_below p.table ps plan.allowed) in
    omega (arith, all, each, parts, count)

served_or_missed : (l s v p : ℕ) → s ≤ l → v ≤ p → l * v + (l - s) * (p - v) ≡ s * v + p * (l - s)
served_or_missed l s v p a b =
    let whole : l ≡ s + (l - s) = omega arith in
    let lacked : l * v ≡ (s + (l - s)) * v = ap (λ n. n * v) whole in
    let split = distributes s (l - s) v in
    let price : p ≡ v + (p - v) = omega arith in
    let missing : p * (l - s) ≡ (v + (p - v)) * (l - s) = ap (λ n. n * (l - s)) price in
    let parts = distributes v (p - v) (l - s) in
    let one : (l - s) * v ≡ v * (l - s) = grind arith in
    let other : (l - s) * (p - v) ≡ (p - v) * (l - s) = grind arith in
    omega (arith, lacked, split, missing, parts, one, other)

-- what all orders pay, and the slacks of the wagons that they miss, are the prices of those served and the penalties
orders_split : (p : PricedPlan) → IsCertified p → (ps : List (ℕ × ℕ)) → IsPlan p.table ps
    → sum_below (order_count p.table) (λ j. lack_at p.table j * slice_index p.v j) + sum_below (order_count p.table) (λ j. missed p ps j * refusal_slack p j)
    ≡ sum_by (λ (q : ℕ × ℕ). slice_index p.v q.1) ps + sum_below (order_count p.table) (missed_cost p.table ps)
orders_split p c ps plan =
    let m = order_count p.table in
    let paid = λ (j : ℕ). lack_at p.table j * slice_index p.v j in
    let refused = λ (j : ℕ). missed p ps j * refusal_slack p j in
    let served = λ (j : ℕ). serves j ps * slice_index p.v j in
    let each = sum_below-same m (λ j. paid j + refused j) (λ j. served j + missed_cost p.table ps j)
    (λ j l. served_or_missed (lack_at p.table j) (serves j ps) (slice_index p.v j) (penalty_at p.table j) (plan.within j l) (c.below_penalty j l)) in
    let left = sum_below-add m paid refused in
    let right = sum_below-add m served (missed_cost p.table ps) in
    let count = double_count (λ p. p.1) (slice_index p.v) m ps (orders_below p.table ps plan.allowed) in
    omega (arith, each, left, right, count)

pub slacks_are_the_difference : SlacksAreTheDifference
slacks_are_the_difference p c other plan =
    let pairs = pairs_split p c other plan.allowed in
    let wagons = wagons_split p c other plan in
    let orders = orders_split p c other plan in
    let balance = c.balance in
    omega (arith, pairs, wagons, orders, balance)

pub slacks_are_whole : SlacksAreWhole
slacks_are_whole p c = record {
  pairs = λ i j allowed.
      let gap : slice_index p.v j ≤ allowed.2.0 + slice_index p.u i = c.no_gap i j allowed.2.0 allowed.0 allowed.1 allowed.2.1 in
      let cost : pair_cost p.table (i, j) ≡ allowed.2.0 = ap (λ o. unwrap_or o 0) allowed.2.1 in
      omega (arith, gap, cost);
  misses = λ j l. let below = c.below_penalty j l in omega (arith, below);
}
