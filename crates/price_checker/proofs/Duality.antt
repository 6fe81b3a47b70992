use Rattle.std.proofs.Common.{◌≡◌, ◌+◌, ◌-◌, ◌*◌, ◌<◌, ◌≤◌, ℕ, zero, suc, List, [], ◌∷◌, length, refl, ◌∙◌, ap, arith, take, add-one, subst}
use Rattle.std.specs.Prelude.{slice_index, Some, unwrap_or, get_or}
use Rattle.std.specs.List.{sum_by, sum}
use Rattle.std.proofs.lemmas.List.Sums.{sum_by-cons, sum_by_more}
use Rattle.std.proofs.Math.Seq.{take-length}
use Rattle.std.proofs.lemmas.List.Elements.{All-cons, All-nil}
use Rattle.cost_table.specs.Plan.{sum_below, IsPlan, IsOptimal, IsAllowed, AllAllowed, cost_of, uses, serves, pair_cost, missed_cost}
use Rattle.cost_table.specs.Table.{Table, cost_at, penalty_at, lack_at, wagon_count, order_count}
use Rattle.price_checker.specs.Certificate.{IsCertificate}
use Rattle.price_checker.specs.Tight.{AreTight, IsTight}
use Rattle.cost_table.proofs.Sums.{double_count, distributes, sum_below-le, sum_below-add}
use Rattle.cost_table.proofs.CostLemmas.{wagons_below, orders_below}

-- a price at most the penalty pays for what is served and what is missed
pub pays : (l s v p : ℕ) → s ≤ l → v ≤ p → l * v ≤ s * v + p * (l - s)
pays l s v p a b =
    let whole : l ≡ s + (l - s) = omega arith in
    let split = distributes s (l - s) v in
    let le : (l - s) * v ≤ (l - s) * p = grind (arith, b) in
    let turn : (l - s) * p ≡ p * (l - s) = grind arith in
    let there : l * v ≡ (s + (l - s)) * v = ap (λ n. n * v) whole in
    omega (arith, split, le, turn, there)

abbrev pub NoGap : Table → List ℕ → List ℕ → Type 0
NoGap t u v = (i j c : ℕ) → i < wagon_count t → j < order_count t → cost_at t i j ≡ Some c → slice_index v j ≤ c + slice_index u i

-- the price of a pair's order is at most its cost and its wagon's price
pair_pays : (t : Table) (u v : List ℕ) → NoGap t u v → (p : ℕ × ℕ) → IsAllowed t p → slice_index v p.1 ≤ pair_cost t p + slice_index u p.0
pair_pays t u v gap p h =
    let one : slice_index v p.1 ≤ h.2.0 + slice_index u p.0 = gap p.0 p.1 h.2.0 h.0 h.1 h.2.1 in
    let cost : pair_cost t p ≡ h.2.0 = ap (λ o. unwrap_or o 0) h.2.1 in
    omega (arith, one, cost)

-- pair by pair, the orders' prices are at most the costs and the wagons' prices
pub pairs_pay : (t : Table) (u v : List ℕ) → NoGap t u v → (ps : List (ℕ × ℕ)) → AllAllowed t ps → sum_by (λ (p : ℕ × ℕ). slice_index v p.1) ps ≤ sum_by (pair_cost t) ps + sum_by (λ (p : ℕ × ℕ). slice_index u p.0) ps
pairs_pay t u v gap [] h = omega arith
pairs_pay t u v gap (p ∷ ps) h =
    omega (arith, pair_pays t u v gap p h.0, pairs_pay t u v gap ps h.1, sum_by-cons (λ (q : ℕ × ℕ). slice_index v q.1) p ps, sum_by-cons (pair_cost t) p ps, sum_by-cons (λ (q : ℕ × ℕ). slice_index u q.0) p ps)

-- the sum of a list is that of its items by index
pub sum_below-items : (u : List ℕ) (n : ℕ) → n ≤ length u → sum_below n (slice_index u) ≡ sum (take n u)
sum_below-items u zero h = refl
sum_below-items u (suc n) h =
    let i : sum_below n (slice_index u) ≡ sum (take n u) = sum_below-items u n (omega arith) in
    let more : sum (take (n + 1) u) ≡ sum (take n u) + get_or u n 0 = sum_by_more (λ x. x) u n 0 (omega arith) in
    let same : take (n + 1) u ≡ take (suc n) u = ap (λ k. take k u) (add-one n) in
    let e : sum (take (n + 1) u) ≡ sum (take (suc n) u) = ap sum same in
    omega (arith, i, more, e)

sum_below-all : (u : List ℕ) → sum_below (length u) (slice_index u) ≡ sum u
sum_below-all u = sum_below-items u (length u) (omega arith) ∙ ap sum (take-length u)

once_at : (n x : ℕ) → n ≤ 1 → n * x ≤ x
once_at n x h = grind (arith, h)

-- what the wagons of a plan are priced at is no more than all wagons are
pub wagons_pay : (t : Table) (u : List ℕ) (ps : List (ℕ × ℕ)) → length u ≡ wagon_count t → IsPlan t ps → sum_by (λ (p : ℕ × ℕ). slice_index u p.0) ps ≤ sum u
wagons_pay t u ps len plan =
    let n = wagon_count t in
    let count = double_count (λ p. p.0) (slice_index u) n ps (wagons_below t ps plan.allowed) in
    let each = sum_below-le n (λ i. uses i ps * slice_index u i) (slice_index u) (λ i l. once_at (uses i ps) (slice_index u i) (plan.once i)) in
    let all : sum_below n (slice_index u) ≡ sum u = subst (λ k. sum_below k (slice_index u) ≡ sum u) len (sum_below-all u) in
    omega (arith, count, each, all)

abbrev pub IsBelowPenalty : Table → List ℕ → Type 0
IsBelowPenalty t v = (j : ℕ) → j < order_count t → slice_index v j ≤ penalty_at t j

-- what the orders pay is at most the prices of those that are served and the penalties of what is missed
pub orders_pay : (t : Table) (v : List ℕ) → IsBelowPenalty t v → (ps : List (ℕ × ℕ)) → IsPlan t ps
    → sum_below (order_count t) (λ j. lack_at t j * slice_index v j) ≤ sum_by (λ (p : ℕ × ℕ). slice_index v p.1) ps + sum_below (order_count t) (missed_cost t ps)
orders_pay t v below ps plan =
    let m = order_count t in
    let served = λ (j : ℕ). serves j ps * slice_index v j in
    let each = sum_below-le m (λ j. lack_at t j * slice_index v j) (λ j. serves j ps * slice_index v j + missed_cost t ps j) (λ j l. pays (lack_at t j) (serves j ps) (slice_index v j) (penalty_at t j) (plan.within j l) (below j l)) in
    let parts = sum_below-add m (λ j. serves j ps * slice_index v j) (missed_cost t ps) in
    let count = double_count (λ p. p.1) (slice_index v) m ps (orders_below t ps plan.allowed) in
    omega (arith, each, parts, count)

-- every plan costs at least what the orders' prices exceed the wagons'
pub weak_duality : (t : Table) (u v : List ℕ) → length u ≡ wagon_count t → NoGap t u v → IsBelowPenalty t v → (ps : List (ℕ × ℕ)) → IsPlan t ps → sum_below (order_count t) (λ j. lack_at t j * slice_index v j) ≤ cost_of t ps + sum u
weak_duality t u v len gap below ps plan =
    let orders = orders_pay t v below ps plan in
    let pairs = pairs_pay t u v gap ps plan.allowed in
    let wagons = wagons_pay t u ps len plan in
    omega (arith, orders, pairs, wagons)

-- a certificate's plan is an optimal one, whoever made the prices
pub certificates_optimal : (t : Table) (pairs : List (ℕ × ℕ)) (u v : List ℕ) → IsCertificate t pairs u v → IsOptimal t pairs
certificates_optimal t pairs u v c = (
  c.plan,
  λ others plan.
      let least = weak_duality t u v c.wagons c.no_gap c.below_penalty others plan in
      let balance = c.balance in
      omega (arith, least, balance),
)

-- pairs that cost in all no more than their prices say cost exactly that, each of them
tight_of_sums : (t : Table) (u v : List ℕ) → length u ≡ wagon_count t → length v ≡ order_count t → NoGap t u v → (ps : List (ℕ × ℕ)) → AllAllowed t ps
    → sum_by (pair_cost t) ps + sum_by (λ (p : ℕ × ℕ). slice_index u p.0) ps ≤ sum_by (λ (p : ℕ × ℕ). slice_index v p.1) ps → AreTight t u v ps
tight_of_sums t u v wagons orders gap [] h le = All-nil (IsTight t u v)
tight_of_sums t u v wagons orders gap (p ∷ ps) h le =
    let front = pair_pays t u v gap p h.0 in
    let rest = pairs_pay t u v gap ps h.1 in
    let served = sum_by-cons (λ (q : ℕ × ℕ). slice_index v q.1) p ps in
    let costs = sum_by-cons (pair_cost t) p ps in
    let priced = sum_by-cons (λ (q : ℕ × ℕ). slice_index u q.0) p ps in
    let tight : IsTight t u v p = record { wagon = omega (arith, wagons, h.0.0); order = omega (arith, orders, h.0.1); prices = omega (arith, front, rest, served, costs, priced, le) } in
    All-cons (IsTight t u v) p ps tight (tight_of_sums t u v wagons orders gap ps h.1 (omega (arith, front, served, costs, priced, le)))

-- each pair of a certificate's plan costs exactly what its prices say
pub certificates_tight : (t : Table) (pairs : List (ℕ × ℕ)) (u v : List ℕ) → IsCertificate t pairs u v → AreTight t u v pairs
certificates_tight t pairs u v c =
    let paid = orders_pay t v c.below_penalty pairs c.plan in
    let priced = wagons_pay t u pairs c.wagons c.plan in
    let balance = c.balance in
    tight_of_sums t u v c.wagons c.orders c.no_gap pairs c.plan.allowed (omega (arith, paid, priced, balance))
