-- A plan that gives an order more wagons has a pair of it that the certified plan doesn't have.
use Rattle.std.proofs.Common.{◌≡◌, ◌+◌, ◌*◌, ◌<◌, ◌≤◌, ℕ, zero, suc, cond, List, [], ◌∷◌, length, get_or, inl, inr, ap, arith, subst}
use Rattle.std.specs.Prelude.{◌==◌}
use Rattle.std.specs.List.{sum_by}
use Rattle.std.proofs.lemmas.Bool.{cases_lt}
use Rattle.std.proofs.lemmas.Bool.Decides.{nat_tests}
use Rattle.std.proofs.lemmas.List.Sums.{sum_by-cons}
use Rattle.cost_table.specs.Table.{Table, wagon_count}
use Rattle.cost_table.specs.Plan.{AllAllowed, IsAllowed, serves, sum_below, uses}
use Rattle.cost_table.proofs.Sums.{AllBelow, sum_below-add, sum_below-at, sum_below-same, sum_below-zero}
use Rattle.cost_table.proofs.CostLemmas.{wagons_below}
use Rattle.plan_bounds.specs.Bounds.{HasPair}
use Rattle.plan_bounds.specs.Laws.{MoreWagonsCostASlack}
use Rattle.plan_bounds.proofs.OtherPlans.{pairs_cost_their_slack}
use Rattle.plan_bounds.proofs.Sums.{sum_by-term}

-- how often a list has the pair
abbrev pair_count : List (ℕ × ℕ) → (j i : ℕ) → ℕ
pair_count ps j i = sum_by (λ (q : ℕ × ℕ). cond (q.0 == i) 1 0 * cond (q.1 == j) 1 0) ps

-- wagon by wagon, the pairs of an order
serves_by_wagon : (n j : ℕ) (ps : List (ℕ × ℕ)) → AllBelow (λ p. p.0) n ps → sum_below n (pair_count ps j) ≡ serves j ps
serves_by_wagon n j [] h = sum_below-zero n (λ i. 0) (λ i l. omega arith)
serves_by_wagon n j (q ∷ ps) h =
    let rest = serves_by_wagon n j ps h.1 in
    let each = sum_below-same n (pair_count (q ∷ ps) j) (λ i. cond (q.0 == i) 1 0 * cond (q.1 == j) 1 0 + pair_count ps j i)
    (λ i l. sum_by-cons (λ (q : ℕ × ℕ). cond (q.0 == i) 1 0 * cond (q.1 == j) 1 0) q ps) in
    let parts = sum_below-add n (λ i. cond (q.0 == i) 1 0 * cond (q.1 == j) 1 0) (pair_count ps j) in
    let one = sum_below-at n q.0 (λ i. cond (q.1 == j) 1 0) h.0 in
    let cons = sum_by-cons (λ (q : ℕ × ℕ). cond (q.1 == j) 1 0) q ps in
    omega (arith, rest, each, parts, one, cons)

-- where one sum is above another, one of its terms is
pub record Above (n : ℕ) (f g : ℕ → ℕ) : Type 0 where
  pub at : ℕ
  pub within : at < n
  pub above : f at < g at

above_in : (n : ℕ) (f g : ℕ → ℕ) → sum_below n f < sum_below n g → Above n f g
above_in zero f g l = absurd (omega arith)
above_in (suc n) f g l =
    elim (cases_lt (f n) (g n)) [
      | inl here ↦ record { at = n; within = omega arith; above = here }
      | inr here ↦
          let before = above_in n f g (omega (arith, l, here)) in
          record { at = before.at; within = let w = before.within in omega (arith, w); above = before.above }
    ]

-- a pair is used by its wagon
count_within : (j i : ℕ) (ps : List (ℕ × ℕ)) → pair_count ps j i ≤ uses i ps
count_within j i [] = omega arith
count_within j i (q ∷ ps) =
    let rest = count_within j i ps in
    let counts = sum_by-cons (λ (q : ℕ × ℕ). cond (q.0 == i) 1 0 * cond (q.1 == j) 1 0) q ps in
    let used = sum_by-cons (λ (q : ℕ × ℕ). cond (q.0 == i) 1 0) q ps in
    let one : cond (q.0 == i) 1 0 * cond (q.1 == j) 1 0 ≤ cond (q.0 == i) 1 0 = grind (arith, nat_tests) in
    omega (arith, rest, counts, used, one)

-- a pair that is counted is there, and one that isn't counted isn't
both_are : (q : ℕ × ℕ) (i j : ℕ) → 1 ≤ cond (q.0 == i) 1 0 * cond (q.1 == j) 1 0 → (q.0 ≡ i) × (q.1 ≡ j)
both_are q i j h = (grind (arith, nat_tests, h), grind (arith, nat_tests, h))

counted_once : (i j : ℕ) → cond (i == i) 1 0 * cond (j == j) 1 0 ≡ 1
counted_once i j = grind (arith, nat_tests)

pub same_pair : (a b i j : ℕ) → a ≡ i → b ≡ j → let q : ℕ × ℕ = (a, b) in let r : ℕ × ℕ = (i, j) in q ≡ r
same_pair a b i j e f = cc

has_counted : (i j : ℕ) (ps : List (ℕ × ℕ)) → 1 ≤ pair_count ps j i → HasPair i j ps
has_counted i j [] h = absurd (omega arith)
has_counted i j (q ∷ ps) h =
    let counts = sum_by-cons (λ (q : ℕ × ℕ). cond (q.0 == i) 1 0 * cond (q.1 == j) 1 0) q ps in
    elim (cases_lt 0 (cond (q.0 == i) 1 0 * cond (q.1 == j) 1 0)) [
      | inl here ↦
          let both = both_are q i j (omega (arith, here)) in
          let same : q ≡ (i, j) = same_pair q.0 q.1 i j both.0 both.1 in
          (zero, omega arith, same)
      | inr none ↦
          let rest = has_counted i j ps (omega (arith, h, counts, none)) in
          let l = rest.1 in
          (suc rest.0, omega (arith, l), rest.2)
    ]

not_counted : (i j : ℕ) (ps : List (ℕ × ℕ)) → pair_count ps j i ≡ 0 → HasPair i j ps → ⊥
not_counted i j ps none has =
    let term = sum_by-term (λ (q : ℕ × ℕ). cond (q.0 == i) 1 0 * cond (q.1 == j) 1 0) ps has.0 (i, j) has.1 in
    let here = ap (λ (q : ℕ × ℕ). cond (q.0 == i) 1 0 * cond (q.1 == j) 1 0) has.2 in
    let one = counted_once i j in
    omega (arith, none, term, here, one)

-- each pair of a plan is allowed
pub allowed_at : (t : Table) (ps : List (ℕ × ℕ)) (k : ℕ) (d : ℕ × ℕ) → AllAllowed t ps → k < length ps → IsAllowed t (get_or ps k d)
allowed_at t [] k d all l = absurd (omega arith)
allowed_at t (q ∷ ps) zero d all l = all.0
allowed_at t (q ∷ ps) (suc k) d all l = allowed_at t ps k d all.1 (omega (arith, l))

pub has_allowed : (t : Table) (ps : List (ℕ × ℕ)) (i j : ℕ) → AllAllowed t ps → HasPair i j ps → IsAllowed t (i, j)
has_allowed t ps i j all has = subst (IsAllowed t) has.2 (allowed_at t ps has.0 (i, j) all has.1)

pub more_wagons_cost_a_slack : MoreWagonsCostASlack
more_wagons_cost_a_slack p c j other plan more =
    let n = wagon_count p.table in
    let ours = serves_by_wagon n j p.pairs (wagons_below p.table p.pairs c.plan.allowed) in
    let theirs = serves_by_wagon n j other (wagons_below p.table other plan.allowed) in
    let above = above_in n (pair_count p.pairs j) (pair_count other j) (omega (arith, ours, theirs, more)) in
    let i = above.at in
    let is_above = above.above in
    let within = count_within j i other in
    let once = plan.once i in
    let has = has_counted i j other (omega (arith, is_above)) in
    let none : pair_count p.pairs j i ≡ 0 = omega (arith, is_above, within, once) in
    (i, record { allowed = has_allowed p.table other i j plan.allowed has; new = not_counted i j p.pairs none }, pairs_cost_their_slack p c i j other plan has)
