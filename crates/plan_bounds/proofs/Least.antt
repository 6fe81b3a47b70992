-- The least slack of the pairs that the certified plan doesn't have.
use Rattle.std.proofs.Common.{◌≡◌, ◌∙◌, ◌+◌, ◌<◌, ◌≤◌, ℕ, zero, suc, cond, Bool, true, false, List, Option, Some, None, inl, inr, refl, sym, ap, add-one, arith, subst}
use Rattle.std.specs.Prelude.{◌==◌, ◌&&◌, Contains, IfNone, IfSome, min, option_map}
use Rattle.std.proofs.lemmas.Bool.{cases_lt}
use Rattle.std.proofs.lemmas.Bool.Decides.{nat_tests}
use Rattle.std.proofs.lemmas.List.Folds.{Any-from_list_any, list_any_at}
use Rattle.std.proofs.Math.Nat.{eq-or-lt_of_le}
use Rattle.cost_table.specs.Table.{cost_at, wagon_count}
use Rattle.cost_table.specs.Plan.{serves}
use Rattle.plan_bounds.specs.PricedPlan.{IsCertified, PricedPlan}
use Rattle.plan_bounds.specs.Slack.{in_64_bits, slack, slack_of_pair}
use Rattle.plan_bounds.specs.LeastSlack.{has_pair, least_new_slack, lesser, new_slack}
use Rattle.plan_bounds.specs.Bounds.{CostsMore, HasPair, IsNewPair, NoneServesMore, ServesMore}
use Rattle.plan_bounds.proofs.NewPairs.{more_wagons_cost_a_slack, same_pair}
use Rattle.plan_bounds.proofs.OtherPlans.{certified_has_no_slack}

pub in_64_bits-le : (km : ℕ) → in_64_bits km ≤ km
in_64_bits-le km = omega arith

none_some : (n : ℕ) (o : Option ℕ) → o ≡ None → o ≡ Some n → ⊥
none_some n o e f = cc

-- ---- whether a list has a pair

both_true : (a b i j : ℕ) → ((a == i) && (b == j)) ≡ true → (a ≡ i) × (b ≡ j)
both_true a b i j h = (grind (arith, nat_tests, h), grind (arith, nat_tests, h))

true_at : (i j : ℕ) → ((i == i) && (j == j)) ≡ true
true_at i j = grind (arith, nat_tests)

pub has_pair-HasPair : (pairs : List (ℕ × ℕ)) (i j : ℕ) → has_pair pairs i j ≡ true → HasPair i j pairs
has_pair-HasPair pairs i j h =
    let any = Any-from_list_any (λ (q : ℕ × ℕ). (q.0 == i) && (q.1 == j)) pairs h in
    let both = both_true any.1.0 any.1.1 i j any.4 in
    let same : any.1 ≡ (i, j) = same_pair any.1.0 any.1.1 i j both.0 both.1 in
    subst (Contains pairs) same (any.0, any.2, any.3)

pub has_pair-true : (pairs : List (ℕ × ℕ)) (i j : ℕ) → HasPair i j pairs → has_pair pairs i j ≡ true
has_pair-true pairs i j has =
    list_any_at (λ (q : ℕ × ℕ). (q.0 == i) && (q.1 == j)) pairs has.0 (i, j) has.1
    (ap (λ (q : ℕ × ℕ). (q.0 == i) && (q.1 == j)) has.2 ∙ true_at i j)

-- ---- what is known of the least slack

-- a slack that a new pair's own isn't below; none where the pair isn't new
abbrev IsBelowSlack : PricedPlan → (i j : ℕ) → Option ℕ → Type 0
IsBelowSlack p i j None = IsNewPair p i j → ⊥
IsBelowSlack p i j (Some km) = IsNewPair p i j → km ≤ slack p (i, j)

-- the same of all new pairs with the first n wagons
abbrev IsBelowEach : PricedPlan → (j n : ℕ) → Option ℕ → Type 0
IsBelowEach p j n None = (i : ℕ) → i < n → IsNewPair p i j → ⊥
IsBelowEach p j n (Some km) = (i : ℕ) → i < n → IsNewPair p i j → km ≤ slack p (i, j)

below_cases : (p : PricedPlan) (i j : ℕ) (b : Bool) (o : Option ℕ) → has_pair p.pairs i j ≡ b → cost_at p.table i j ≡ o
    → IsBelowSlack p i j (cond b None (option_map (λ cost. in_64_bits (slack p (i, j))) o))
below_cases p i j true o has is = λ new. new.new (has_pair-HasPair p.pairs i j has)
below_cases p i j false None has is = λ new. let there = new.allowed.2.1 in absurd (none_some new.allowed.2.0 (cost_at p.table i j) is there)
below_cases p i j false (Some cost) has is = λ new. in_64_bits-le (slack p (i, j))

new_is_below : (p : PricedPlan) (i j : ℕ) → IsBelowSlack p i j (new_slack p i j)
new_is_below p i j = below_cases p i j (has_pair p.pairs i j) (cost_at p.table i j) refl refl

-- one wagon more: it is the last, or one before
last_or_before : (P : ℕ → Type 0) (n : ℕ) → ((i : ℕ) → i < n → P i) → P n → (i : ℕ) → i < suc n → P i
last_or_before P n before last i l =
    let le : i ≤ n = omega arith in
    elim (eq-or-lt_of_le le) [
      | inl e ↦ subst P (omega (arith, e)) last
      | inr b ↦ before i b
    ]

lesser_is_below : (p : PricedPlan) (j n : ℕ) (one other : Option ℕ) → IsBelowEach p j n one → IsBelowSlack p n j other → IsBelowEach p j (suc n) (lesser one other)
lesser_is_below p j n None None before here = last_or_before (λ i. IsNewPair p i j → ⊥) n before here
lesser_is_below p j n None (Some km) before here = last_or_before (λ i. IsNewPair p i j → km ≤ slack p (i, j)) n (λ i l new. absurd (before i l new)) here
lesser_is_below p j n (Some km) None before here = last_or_before (λ i. IsNewPair p i j → km ≤ slack p (i, j)) n before (λ new. absurd (here new))
lesser_is_below p j n (Some km) (Some other) before here = last_or_before (λ i. IsNewPair p i j → min km other ≤ slack p (i, j)) n
    (λ i l new. let le = before i l new in omega (arith, le))
    (λ new. let le = here new in omega (arith, le))

least_is_below : (p : PricedPlan) (j n : ℕ) → IsBelowEach p j n (least_new_slack p j n)
least_is_below p j zero = λ i l new. omega (arith, l)
least_is_below p j (suc n) = lesser_is_below p j n (least_new_slack p j n) (new_slack p n j) (least_is_below p j n) (new_is_below p n j)

-- ---- what the loop over the wagons keeps

pub least_more : (p : PricedPlan) (j n : ℕ) (one new least : Option ℕ) → one ≡ least_new_slack p j n → new ≡ new_slack p n j → least ≡ lesser one new
    → least ≡ least_new_slack p j (n + 1)
least_more p j n one new least e f g =
    let more : least ≡ lesser (least_new_slack p j n) (new_slack p n j) = cc in
    subst (λ m. least ≡ least_new_slack p j m) (sym (add-one n)) more

lesser_zero : (one other : Option ℕ) → one ≡ Some 0 → lesser one other ≡ Some 0
lesser_zero None other h = absurd (none_some 0 None refl h)
lesser_zero (Some one) None h = h
lesser_zero (Some one) (Some other) h = let zero : one ≡ 0 = cc in ap Some (omega (arith, zero))

-- a slack of 0 stays the least
pub zero_stays : (p : PricedPlan) (j n m : ℕ) → n ≤ m → least_new_slack p j n ≡ Some 0 → least_new_slack p j m ≡ Some 0
zero_stays p j n zero le h = let none : n ≡ 0 = omega (arith, le) in subst (λ k. least_new_slack p j k ≡ Some 0) none h
zero_stays p j n (suc m) le h =
    elim (eq-or-lt_of_le le) [
      | inl e ↦ subst (λ k. least_new_slack p j k ≡ Some 0) e h
      | inr l ↦ lesser_zero (least_new_slack p j m) (new_slack p m j) (zero_stays p j n m (omega (arith, l)) h)
    ]

-- ---- what the least slack bounds

-- each plan that gives the order more
pub least_bounds : (p : PricedPlan) → IsCertified p → (j : ℕ) (o : Option ℕ) → o ≡ least_new_slack p j (wagon_count p.table) → IfSome o (CostsMore p (ServesMore p j))
least_bounds p c j None is = tt
least_bounds p c j (Some km) is = λ other plan more.
    let below = subst (IsBelowEach p j (wagon_count p.table)) (sym is) (least_is_below p j (wagon_count p.table)) in
    let slack = more_wagons_cost_a_slack p c j other plan more in
    let le = below slack.0 slack.1.allowed.0 slack.1 in
    let bound = slack.2 in
    omega (arith, le, bound)

-- where there is none, no plan does
pub none_bounds : (p : PricedPlan) → IsCertified p → (j : ℕ) (o : Option ℕ) → o ≡ least_new_slack p j (wagon_count p.table) → IfNone o (NoneServesMore p j)
none_bounds p c j (Some km) is = tt
none_bounds p c j None is = λ other plan.
    let below = subst (IsBelowEach p j (wagon_count p.table)) (sym is) (least_is_below p j (wagon_count p.table)) in
    elim (cases_lt (serves j p.pairs) (serves j other)) [
      | inl more ↦ let slack = more_wagons_cost_a_slack p c j other plan more in absurd (below slack.0 slack.1.allowed.0 slack.1)
      | inr le ↦ le
    ]

-- ---- the slack of a new pair

-- a pair of the certified plan has no slack, so one with a slack isn't there
new_by_slack : (p : PricedPlan) → IsCertified p → (i j : ℕ) (b : Bool) → has_pair p.pairs i j ≡ b → 0 < slack p (i, j) → b ≡ false
new_by_slack p c i j false has more = refl
new_by_slack p c i j true has more =
    let zero = (certified_has_no_slack p c).pairs i j (has_pair-HasPair p.pairs i j has) in
    absurd (omega (arith, more, zero))

pub new_with_slack : (p : PricedPlan) → IsCertified p → (i j : ℕ) → 0 < slack p (i, j) → has_pair p.pairs i j ≡ false
new_with_slack p c i j more = new_by_slack p c i j (has_pair p.pairs i j) refl more

-- a slack that is given is at most the pair's own
given_le : (x n : ℕ) (o : Option ℕ) → Some n ≡ option_map (λ cost. in_64_bits x) o → n ≤ x
given_le x n None is = absurd (none_some n None refl (sym is))
given_le x n (Some cost) is = let same : n ≡ in_64_bits x = cc in omega (arith, same, in_64_bits-le x)

pub slack_of_pair-le : (p : PricedPlan) (i j n : ℕ) → Some n ≡ slack_of_pair p i j → n ≤ slack p (i, j)
slack_of_pair-le p i j n is = given_le (slack p (i, j)) n (cost_at p.table i j) is

pub slack_of_new : (b : Bool) (given own : Option ℕ) → b ≡ false → given ≡ own → given ≡ cond b None own
slack_of_new b given own new is = rw new is
