-- Wagons with the same costs: where one has a pair, the other may have it in its place, at no other cost.
use Rattle.std.proofs.Common.{◌≡◌, ◌∙◌, ◌+◌, ◌-◌, ◌*◌, ◌<◌, ℕ, zero, suc, cond, Bool, true, false, List, [], ◌∷◌, length, get_or, ap, arith, refl, sym}
use Rattle.std.specs.Prelude.{◌==◌, unwrap_or}
use Rattle.std.specs.List.{sum_by}
use Rattle.std.proofs.lemmas.Bool.Decides.{nat_tests}
use Rattle.std.proofs.lemmas.List.Sums.{sum_by-cons}
use Rattle.cost_table.specs.Table.{Table, cost_at, lack_at, order_count, penalty_at, wagon_count}
use Rattle.cost_table.specs.TableRows.{cost_in, row_at}
use Rattle.cost_table.specs.Plan.{AllAllowed, IsPlan, cost_of, missed_cost, pair_cost, serves, uses}
use Rattle.cost_table.proofs.Sums.{sum_below-same}
use Rattle.cost_table.proofs.TableRowLemmas.{cost_by_row}
use Rattle.plan_bounds.specs.PricedPlan.{PricedPlan, certified_cost}
use Rattle.plan_bounds.specs.Bounds.{HasPair}
use Rattle.plan_bounds.proofs.NewPairs.{same_pair}
use Rattle.exact_costs.specs.LeastCosts.{BestCostsMore, IsLeastOver}
use Rattle.exact_costs.proofs.Sums.{serves-cons, uses-cons}

-- ---- the other of two wagons; any third is itself

abbrev turn : (i k w : ℕ) → ℕ
turn i k w = cond (w == i) k (cond (w == k) i w)

one_turned : (i k a w : ℕ) → ◌≡◌ {A = ℕ} (cond (turn i k a == w) 1 0) (cond (a == turn i k w) 1 0)
one_turned i k a w = grind (arith, nat_tests)

turn_first : (i k : ℕ) → turn i k i ≡ k
turn_first i k = grind (arith, nat_tests)

turn_second : (i k : ℕ) → turn i k k ≡ i
turn_second i k = grind (arith, nat_tests)

turn_within : (i k w n : ℕ) → i < n → k < n → w < n → turn i k w < n
turn_within i k w n a b c = grind (arith, nat_tests, a, b, c)

-- what is the same of both is the same of each wagon and its other
same_turned : {A : Type 0} (f : ℕ → A) (i k w : ℕ) → f i ≡ f k → f (turn i k w) ≡ f w
same_turned {A} f i k w same = at (w == i) (w == k) refl refl
  where
    at : (b c : Bool) → (w == i) ≡ b → (w == k) ≡ c → f (cond b k (cond c i w)) ≡ f w
    at true c e g = let is : i ≡ w = grind (arith, nat_tests, e) in sym same ∙ ap f is
    at false true e g = let is : k ≡ w = grind (arith, nat_tests, g) in same ∙ ap f is
    at false false e g = refl

-- ---- plans in which two wagons stand for each other

turned : (i k : ℕ) → List (ℕ × ℕ) → List (ℕ × ℕ)
turned i k [] = []
turned i k (q ∷ ps) = (turn i k q.0, q.1) ∷ turned i k ps

turned_uses : (i k w : ℕ) (ps : List (ℕ × ℕ)) → uses w (turned i k ps) ≡ uses (turn i k w) ps
unfolding turned
turned_uses i k w [] = refl
turned_uses i k w (q ∷ ps) =
    omega (arith, turned_uses i k w ps, one_turned i k q.0 w, uses-cons w (turn i k q.0, q.1) (turned i k ps), uses-cons (turn i k w) q ps)

turned_serves : (i k j : ℕ) (ps : List (ℕ × ℕ)) → serves j (turned i k ps) ≡ serves j ps
unfolding turned
turned_serves i k j [] = refl
turned_serves i k j (q ∷ ps) = omega (arith, turned_serves i k j ps, serves-cons j (turn i k q.0, q.1) (turned i k ps), serves-cons j q ps)

module _ (t : Table) (i k : ℕ) (wagon : i < wagon_count t) (other : k < wagon_count t) (same : (j : ℕ) → cost_at t i j ≡ cost_at t k j) where
  same_cell : (w j : ℕ) → cost_at t (turn i k w) j ≡ cost_at t w j
  same_cell w j = same_turned (λ (w : ℕ). cost_at t w j) i k w (same j)

  turned_allowed : (ps : List (ℕ × ℕ)) → AllAllowed t ps → AllAllowed t (turned i k ps)
  unfolding turned
  turned_allowed [] h = tt
  turned_allowed (q ∷ ps) h = ((turn_within i k q.0 (wagon_count t) wagon other h.0.0, h.0.1, (h.0.2.0, same_cell q.0 q.1 ∙ h.0.2.1)), turned_allowed ps h.1)

  turned_costs : (ps : List (ℕ × ℕ)) → sum_by (pair_cost t) (turned i k ps) ≡ sum_by (pair_cost t) ps
  unfolding turned
  turned_costs [] = refl
  turned_costs (q ∷ ps) =
      let first : pair_cost t (turn i k q.0, q.1) ≡ pair_cost t q = ap (λ o. unwrap_or o 0) (same_cell q.0 q.1) in
      omega (arith, turned_costs ps, first, sum_by-cons (pair_cost t) (turn i k q.0, q.1) (turned i k ps), sum_by-cons (pair_cost t) q ps)

  turned_plan : (ps : List (ℕ × ℕ)) → IsPlan t ps → IsPlan t (turned i k ps)
  turned_plan ps plan = record {
    allowed = turned_allowed ps plan.allowed;
    once = λ w. let once = plan.once (turn i k w) in omega (arith, once, turned_uses i k w ps);
    within = λ j l. let within = plan.within j l in omega (arith, within, turned_serves i k j ps);
  }

  turned_cost : (ps : List (ℕ × ℕ)) → cost_of t (turned i k ps) ≡ cost_of t ps
  turned_cost ps =
      let missed = sum_below-same (order_count t) (missed_cost t (turned i k ps)) (missed_cost t ps) (λ j l. ap (λ (n : ℕ). penalty_at t j * (lack_at t j - n)) (turned_serves i k j ps)) in
      omega (arith, turned_costs ps, missed)

turned_has : (i k a b j m : ℕ) (ps : List (ℕ × ℕ)) → turn i k a ≡ b → m < length ps → get_or ps m (a, j) ≡ (a, j) → HasPair b j (turned i k ps)
unfolding turned
turned_has i k a b j m [] is l at = absurd (omega (arith, l))
turned_has i k a b j zero (q ∷ ps) is l at =
    let here : q ≡ (a, j) = at in
    (zero, omega arith, same_pair (turn i k q.0) q.1 b j (ap (λ (q : ℕ × ℕ). turn i k q.0) here ∙ is) (ap (λ (q : ℕ × ℕ). q.1) here))
turned_has i k a b j (suc m) (q ∷ ps) is l at =
    let rest = turned_has i k a b j m ps is (omega (arith, l)) at in
    let within = rest.1 in
    (suc rest.0, omega (arith, within), rest.2)

-- ---- the best plans that have their pairs cost the same

twin_least : (t : Table) (i k j n : ℕ) → i < wagon_count t → k < wagon_count t → ((j : ℕ) → cost_at t i j ≡ cost_at t k j) → IsLeastOver t (HasPair i j) n → IsLeastOver t (HasPair k j) n
twin_least t i k j n l m same best =
    let so = best.is_so in
    record {
      plan = turned i k best.plan;
      of_table = turned_plan t i k l m same best.plan best.of_table;
      is_so = turned_has i k i k j so.0 best.plan (turn_first i k) so.1 so.2;
      costs = turned_cost t i k l m same best.plan ∙ best.costs;
      least = λ other plan has.
          let least = best.least (turned i k other) (turned_plan t i k l m same other plan) (turned_has i k k i j has.0 other (turn_second i k) has.1 has.2) in
          let cost = turned_cost t i k l m same other in
          omega (arith, least, cost);
    }

pub twins_cost_the_same : (p : PricedPlan) (i k j km : ℕ) → i < wagon_count p.table → k < wagon_count p.table → row_at p.table i ≡ row_at p.table k → BestCostsMore p (HasPair i j) km → BestCostsMore p (HasPair k j) km
twins_cost_the_same p i k j km l m row best =
    twin_least p.table i k j (certified_cost p + km) l m
    (λ o. cost_by_row p.table i o ∙ (ap (λ (cells : List (ℕ × ℕ)). cost_in cells o) row ∙ sym (cost_by_row p.table k o))) best
