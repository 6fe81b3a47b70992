-- A plan that gives an order one wagon more than another plan does.
use Rattle.std.proofs.Common.{◌≡◌, ◌∙◌, ◌<◌, ◌≤◌, ℕ, zero, suc, cond, Bool, true, false, List, [], ◌∷◌, Option, None, Some, inl, inr, ap, arith, refl, sym}
use Rattle.std.specs.Prelude.{◌==◌, ◌≢◌, option_map}
use Rattle.std.proofs.lemmas.Bool.{cases_Bool, cases_lt}
use Rattle.std.proofs.lemmas.Bool.Decides.{nat_tests}
use Rattle.cost_table.specs.Table.{Table, cost_at, lack_at, order_count, wagon_count}
use Rattle.cost_table.specs.Plan.{AllAllowed, IsPlan, serves, uses}
use Rattle.plan_bounds.specs.PricedPlan.{PricedPlan}
use Rattle.plan_bounds.specs.Slack.{in_64_bits, slack}
use Rattle.plan_bounds.specs.LeastSlack.{has_pair, least_new_slack, lesser, new_slack}
use Rattle.plan_bounds.specs.Bounds.{HasPair, ServesMore}
use Rattle.plan_bounds.proofs.Least.{has_pair-true}
use Rattle.plan_bounds.proofs.NewPairs.{same_pair}
use Rattle.exact_costs.specs.inner.Further.{HasNewPair}
use Rattle.exact_costs.proofs.Sums.{serves-here, serves-other, uses-here, uses-other}

none_some : (n : ℕ) (o : Option ℕ) → o ≡ None → o ≡ Some n → ⊥
none_some n o e f = cc

true_false : (b : Bool) → b ≡ true → b ≡ false → ⊥
true_false b e f = cc

-- ---- a pair that the plan doesn't have

record IsThere (p : PricedPlan) (i j : ℕ) : Type 0 where
  new : has_pair p.pairs i j ≡ false
  cost : ℕ
  is : cost_at p.table i j ≡ Some cost

there_by : (p : PricedPlan) (i j n : ℕ) (b : Bool) (o : Option ℕ) → has_pair p.pairs i j ≡ b → cost_at p.table i j ≡ o
    → cond b None (option_map (λ cost. in_64_bits (slack p (i, j))) o) ≡ Some n → IsThere p i j
there_by p i j n true o has cost is = absurd (none_some n None refl is)
there_by p i j n false None has cost is = absurd (none_some n None refl is)
there_by p i j n false (Some c) has cost is = record { new = has; cost = c; is = cost }

new_there : (p : PricedPlan) (i j n : ℕ) → i < wagon_count p.table → j < order_count p.table → new_slack p i j ≡ Some n → HasNewPair p j
new_there p i j n l m is =
    let there = there_by p i j n (has_pair p.pairs i j) (cost_at p.table i j) refl refl is in
    (i, record { allowed = (l, m, (there.cost, there.is)); new = λ has. true_false (has_pair p.pairs i j) (has_pair-true p.pairs i j has) there.new })

new_pair_by : (p : PricedPlan) (j n : ℕ) → n < wagon_count p.table → j < order_count p.table → (one other : Option ℕ) → ((km : ℕ) → one ≡ Some km → HasNewPair p j) → new_slack p n j ≡ other
    → (km : ℕ) → lesser one other ≡ Some km → HasNewPair p j
new_pair_by p j n l m (Some one) other before here km is = before one refl
new_pair_by p j n l m None (Some other) before here km is = new_there p n j other l m here
new_pair_by p j n l m None None before here km is = absurd (none_some km None refl is)

-- where there is a least slack, there is a pair
pub new_pair_there : (p : PricedPlan) (j n : ℕ) → n ≤ wagon_count p.table → j < order_count p.table → (km : ℕ) → least_new_slack p j n ≡ Some km → HasNewPair p j
new_pair_there p j zero l m km is = absurd (none_some km None refl is)
new_pair_there p j (suc n) l m km is =
    new_pair_by p j n (omega (arith, l)) m (least_new_slack p j n) (new_slack p n j) (new_pair_there p j n (omega (arith, l)) m) refl km is

-- the same of the plan that a call is told of
pub new_pair_found : (q p : PricedPlan) → q ≡ p → (j km : ℕ) → j < order_count p.table → Some km ≡ least_new_slack q j (wagon_count q.table) → HasNewPair p j
new_pair_found q p same j km l is =
    new_pair_there p j (wagon_count p.table) (omega arith) l km (sym (is ∙ ap (λ (p : PricedPlan). least_new_slack p j (wagon_count p.table)) same))

-- ---- the pairs of one order

record OfOrder (t : Table) (j : ℕ) (ps : List (ℕ × ℕ)) : Type 0 where
  rest : List (ℕ × ℕ)
  allowed : AllAllowed t rest
  used : (k : ℕ) → uses k rest ≤ uses k ps
  all : serves j rest ≡ serves j ps
  none : (k : ℕ) → k ≢ j → serves k rest ≡ 0
  there : (i : ℕ) → 1 ≤ uses i rest → HasPair i j ps

-- a pair of the list is one of a longer list
later : (i j : ℕ) (q : ℕ × ℕ) (ps : List (ℕ × ℕ)) → HasPair i j ps → HasPair i j (q ∷ ps)
later i j q ps has = let l = has.1 in (suc has.0, omega (arith, l), has.2)

of_order : (t : Table) (j : ℕ) (ps : List (ℕ × ℕ)) → AllAllowed t ps → OfOrder t j ps
of_order t j [] h = record { rest = []; allowed = tt; used = λ k. omega arith; all = refl; none = λ k other. refl; there = λ i l. absurd (omega (arith, l)) }
of_order t j (q ∷ ps) h =
    let before = of_order t j ps h.1 in
    let all = before.all in
    elim (cases_Bool (q.1 == j)) [
      | inl e ↦
          let is : q.1 ≡ j = grind (arith, nat_tests, e) in
          record {
            rest = q ∷ before.rest;
            allowed = (h.0, before.allowed);
            used = λ k. used_more k q before.rest ps (before.used k);
            all = omega (arith, all, serves-here j q before.rest is, serves-here j q ps is);
            none = λ k other. serves-other k q before.rest (λ f. other (sym f ∙ is)) ∙ before.none k other;
            there = λ i l. there_more i j q before.rest ps is (before.there i) l;
          }
      | inr e ↦
          let other : q.1 ≢ j = grind (arith, nat_tests, e) in
          record {
            rest = before.rest;
            allowed = before.allowed;
            used = λ k. used_less k q ps (before.rest) (before.used k);
            all = omega (arith, all, serves-other j q ps other);
            none = before.none;
            there = λ i l. later i j q ps (before.there i l);
          }
    ] where
      used_more : (k : ℕ) (q : ℕ × ℕ) (rest ps : List (ℕ × ℕ)) → uses k rest ≤ uses k ps → uses k (q ∷ rest) ≤ uses k (q ∷ ps)
      used_more k q rest ps le =
          elim (cases_Bool (q.0 == k)) [
            | inl e ↦ let is : q.0 ≡ k = grind (arith, nat_tests, e) in omega (arith, le, uses-here k q rest is, uses-here k q ps is)
            | inr e ↦ let other : q.0 ≢ k = grind (arith, nat_tests, e) in omega (arith, le, uses-other k q rest other, uses-other k q ps other)
          ]

      used_less : (k : ℕ) (q : ℕ × ℕ) (ps rest : List (ℕ × ℕ)) → uses k rest ≤ uses k ps → uses k rest ≤ uses k (q ∷ ps)
      used_less k q ps rest le =
          elim (cases_Bool (q.0 == k)) [
            | inl e ↦ let is : q.0 ≡ k = grind (arith, nat_tests, e) in omega (arith, le, uses-here k q ps is)
            | inr e ↦ let other : q.0 ≢ k = grind (arith, nat_tests, e) in omega (arith, le, uses-other k q ps other)
          ]

      there_more : (i j : ℕ) (q : ℕ × ℕ) (rest ps : List (ℕ × ℕ)) → q.1 ≡ j → (1 ≤ uses i rest → HasPair i j ps) → 1 ≤ uses i (q ∷ rest) → HasPair i j (q ∷ ps)
      there_more i j q rest ps is before l =
          elim (cases_Bool (q.0 == i)) [
            | inl e ↦ let wagon : q.0 ≡ i = grind (arith, nat_tests, e) in (zero, omega arith, same_pair q.0 q.1 i j wagon is)
            | inr e ↦ let other : q.0 ≢ i = grind (arith, nat_tests, e) in later i j q ps (before (omega (arith, l, uses-other i q rest other)))
          ]

-- ---- the pairs of the order and a new one are a plan

pub record GivesMore (p : PricedPlan) (j : ℕ) : Type 0 where
  pub plan : List (ℕ × ℕ)
  pub of_table : IsPlan p.table plan
  pub gives_more : ServesMore p j plan

pub some_gives_more : (p : PricedPlan) (j : ℕ) → IsPlan p.table p.pairs → serves j p.pairs < lack_at p.table j → HasNewPair p j → GivesMore p j
some_gives_more p j plan less new =
    let i = new.0 in
    let own = of_order p.table j p.pairs plan.allowed in
    let given = own.all in
    let idle : uses i own.rest ≡ 0 = elim (cases_lt 0 (uses i own.rest)) [
      | inl l ↦ absurd (new.1.new (own.there i l))
      | inr l ↦ omega (arith, l)
    ] in
    let here = serves-here j (i, j) own.rest refl in
    record {
      plan = (i, j) ∷ own.rest;
      of_table = record {
        allowed = (new.1.allowed, own.allowed);
        once = λ k. used_once i j k own.rest p.pairs idle (own.used k) (plan.once k);
        within = λ k l. served_within i j k own.rest (lack_at p.table j) (lack_at p.table k) (omega (arith, here, given, less)) (own.none k) (λ e. ap (lack_at p.table) e);
      };
      gives_more = omega (arith, here, given);
    } where
      used_once : (i j k : ℕ) (rest ps : List (ℕ × ℕ)) → uses i rest ≡ 0 → uses k rest ≤ uses k ps → uses k ps ≤ 1 → uses k ((i, j) ∷ rest) ≤ 1
      used_once i j k rest ps idle no_more once =
          elim (cases_Bool (i == k)) [
            | inl e ↦
                let is : i ≡ k = grind (arith, nat_tests, e) in
                let none : uses k rest ≡ 0 = ap (λ (n : ℕ). uses n rest) (sym is) ∙ idle in
                omega (arith, uses-here k (i, j) rest is, none)
            | inr e ↦
                let other : i ≢ k = grind (arith, nat_tests, e) in
                omega (arith, uses-other k (i, j) rest other, no_more, once)
          ]

      served_within : (i j k : ℕ) (rest : List (ℕ × ℕ)) (n l : ℕ) → serves j ((i, j) ∷ rest) ≤ n → (k ≢ j → serves k rest ≡ 0) → (k ≡ j → l ≡ n) → serves k ((i, j) ∷ rest) ≤ l
      served_within i j k rest n l le none same =
          elim (cases_Bool (j == k)) [
            | inl e ↦
                let is : j ≡ k = grind (arith, nat_tests, e) in
                let lack = same (sym is) in
                let served : serves k ((i, j) ∷ rest) ≡ serves j ((i, j) ∷ rest) = ap (λ (n : ℕ). serves n ((i, j) ∷ rest)) (sym is) in
                omega (arith, le, lack, served)
            | inr e ↦
                let other : j ≢ k = grind (arith, nat_tests, e) in
                let zero = none (λ f. other (sym f)) in
                omega (arith, serves-other k (i, j) rest other, zero)
          ]
