-- Lists of pairs that have the same sums, and what plans of them cost.
use Rattle.std.proofs.Common.{◌≡◌, ◌+◌, ◌-◌, ◌*◌, ◌≤◌, ℕ, zero, suc, cond, List, ◌∷◌, ap, arith, refl}
use Rattle.std.specs.Prelude.{◌==◌, ◌≢◌, sum, slice_index}
use Rattle.std.specs.List.{sum_by}
use Rattle.std.proofs.lemmas.List.Sums.{sum_by-cons}
use Rattle.std.proofs.lemmas.Bool.Decides.{nat_tests}
use Rattle.cost_table.specs.Table.{Table, lack_at, order_count, penalty_at}
use Rattle.cost_table.specs.TableLimits.{IsTable, max_cost}
use Rattle.cost_table.specs.Plan.{cost_of, missed_cost, pair_cost, serves, sum_below, uses}
use Rattle.cost_table.proofs.Sums.{distributes, sum_below-le, sum_below-same}
use Rattle.price_checker.specs.Certificate.{IsCertificate}
use Rattle.plan_bounds.proofs.Sums.{sum_below-list}
use Rattle.exact_costs.specs.inner.Certified.{max_plan_cost}

-- ---- one pair more

pub uses-cons : (i : ℕ) (q : ℕ × ℕ) (ps : List (ℕ × ℕ)) → uses i (q ∷ ps) ≡ cond (q.0 == i) 1 0 + uses i ps
uses-cons i q ps = sum_by-cons (λ (q : ℕ × ℕ). cond (q.0 == i) 1 0) q ps

pub serves-cons : (j : ℕ) (q : ℕ × ℕ) (ps : List (ℕ × ℕ)) → serves j (q ∷ ps) ≡ cond (q.1 == j) 1 0 + serves j ps
serves-cons j q ps = sum_by-cons (λ (q : ℕ × ℕ). cond (q.1 == j) 1 0) q ps

one_is : (a b : ℕ) → a ≡ b → ◌≡◌ {A = ℕ} (cond (a == b) 1 0) 1
one_is a b e = grind (arith, nat_tests, e)

none_is : (a b : ℕ) → a ≢ b → ◌≡◌ {A = ℕ} (cond (a == b) 1 0) 0
none_is a b e = grind (arith, nat_tests, e)

pub uses-here : (i : ℕ) (q : ℕ × ℕ) (ps : List (ℕ × ℕ)) → q.0 ≡ i → uses i (q ∷ ps) ≡ 1 + uses i ps
uses-here i q ps e = omega (arith, uses-cons i q ps, one_is q.0 i e)

pub uses-other : (i : ℕ) (q : ℕ × ℕ) (ps : List (ℕ × ℕ)) → q.0 ≢ i → uses i (q ∷ ps) ≡ uses i ps
uses-other i q ps e = omega (arith, uses-cons i q ps, none_is q.0 i e)

pub serves-here : (j : ℕ) (q : ℕ × ℕ) (ps : List (ℕ × ℕ)) → q.1 ≡ j → serves j (q ∷ ps) ≡ 1 + serves j ps
serves-here j q ps e = omega (arith, serves-cons j q ps, one_is q.1 j e)

pub serves-other : (j : ℕ) (q : ℕ × ℕ) (ps : List (ℕ × ℕ)) → q.1 ≢ j → serves j (q ∷ ps) ≡ serves j ps
serves-other j q ps e = omega (arith, serves-cons j q ps, none_is q.1 j e)

-- ---- lists with the same sums

abbrev pub HaveSameSums : (ps qs : List (ℕ × ℕ)) → Type 0
HaveSameSums ps qs = (f : ℕ × ℕ → ℕ) → sum_by f ps ≡ sum_by f qs

pub same_cost : (t : Table) (ps qs : List (ℕ × ℕ)) → HaveSameSums ps qs → cost_of t ps ≡ cost_of t qs
same_cost t ps qs same =
    let pairs = same (pair_cost t) in
    let missed = sum_below-same (order_count t) (missed_cost t ps) (missed_cost t qs)
    (λ j l. ap (λ n. penalty_at t j * (lack_at t j - n)) (same (λ (q : ℕ × ℕ). cond (q.1 == j) 1 0))) in
    omega (arith, pairs, missed)

-- ---- what a plan costs at most

sum_below-times : (n k : ℕ) (f : ℕ → ℕ) → sum_below n (λ j. f j * k) ≡ sum_below n f * k
sum_below-times zero k f = omega arith
sum_below-times (suc n) k f =
    let rest = sum_below-times n k f in
    let split = distributes (sum_below n f) (f n) k in
    omega (arith, rest, split)

pub less_times : (l v m : ℕ) → v ≤ m → l * v ≤ l * m
less_times l v m h = grind (arith, h)

pub cost_within : (t : Table) (pairs : List (ℕ × ℕ)) (u v : List ℕ) → IsTable t → IsCertificate t pairs u v → cost_of t pairs ≤ max_plan_cost
cost_within t pairs u v legal c =
    let n = order_count t in
    let each = sum_below-le n (λ j. lack_at t j * slice_index v j) (λ j. lack_at t j * max_cost)
    (λ j l.
    let below = c.below_penalty j l in
    let count = legal.penalty_count in
    let limit : penalty_at t j ≤ max_cost = legal.penalties j 0 (omega (arith, l, count)) in
    less_times (lack_at t j) (slice_index v j) max_cost (omega (arith, below, limit))) in
    let paid = sum_below-times n max_cost (lack_at t) in
    let all : sum_below n (lack_at t) ≡ sum t.lacks = sum_below-list t.lacks n refl in
    let few = legal.lack_in_all in
    let balance = c.balance in
    omega (arith, each, paid, all, few, balance)

-- the same of a cost that a call answers of pairs that are those of the certificate
pub answer_within : (t : Table) (pairs same : List (ℕ × ℕ)) (u v : List ℕ) (n : ℕ) → IsTable t → IsCertificate t pairs u v → same ≡ pairs → n ≡ cost_of t same → n ≤ max_plan_cost
answer_within t pairs same u v n legal c e is =
    let le = cost_within t pairs u v legal c in
    let cost : cost_of t same ≡ cost_of t pairs = ap (cost_of t) e in
    omega (arith, le, cost, is)
