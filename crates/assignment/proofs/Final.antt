use Rattle.std.proofs.Common.{◌≡◌, ◌≢◌, ◌+◌, ◌-◌, ◌<◌, ◌≤◌, ◌*◌, ℕ, zero, suc, Bool, true, false, cond, List, [], ◌∷◌, ◌++◌, Option, Some, None, length, get_or, refl, sym, ◌∙◌, ap, arith, inl, inr, subst}
use Rattle.std.specs.Prelude.{◌==◌, unwrap_or, slice_index, sum}
use Rattle.std.specs.List.{sum_by}
use Rattle.std.proofs.lemmas.Bool.{cases_eq, cases_lt}
use Rattle.std.proofs.lemmas.List.Sums.{sum_by-cons, sum_by-append}
use Rattle.std.proofs.lemmas.Bool.Decides.{nat_tests}
use Rattle.cost_table.specs.Table.{penalty_at, lack_at, wagon_count, order_count}
use Rattle.cost_table.specs.Plan.{sum_below, uses, serves, AllAllowed, pair_cost, missed_cost}
use Rattle.cost_table.specs.PlanList.{IsAscendingPlan, IsAscendingFrom, Precedes, IsPlanList}
use Rattle.cost_table.proofs.Sums.{sum_below-same, sum_below-add, sum_below-at, double_count, distributes}
use Rattle.cost_table.proofs.CostLemmas.{wagons_below, orders_below}
use Rattle.price_checker.specs.Certificate.{IsCertificate}
use Rattle.price_checker.proofs.Duality.{sum_below-items}
use Rattle.std.proofs.Math.Seq.{take-length}
use Rattle.assignment.specs.inner.State.{Kept, has_order, served, order_at, IsKept, AreCounted}
use Rattle.assignment.specs.inner.Path.{one_if}
use Rattle.assignment.specs.inner.Pairs.{pairs_of, pairs_below}
use Rattle.assignment.proofs.Limits.{cell_wagon, cell_order}
use Rattle.assignment.proofs.Pairs.{one_below, one_if-test}

-- each pair is of order j, of a wagon from i on that has it
abbrev EachOf : ℕ → ℕ → List (Option ℕ) → List (ℕ × ℕ) → Type 0
EachOf j i xs [] = Unit {0}
EachOf j i xs (p ∷ ps) = (i ≤ p.0) × (p.1 ≡ j) × (get_or xs (p.0 - i) None ≡ Some j) × EachOf j i xs ps

-- each pair is of a wagon and its order
abbrev EachHeld : List (Option ℕ) → List (ℕ × ℕ) → Type 0
EachHeld h [] = Unit {0}
EachHeld h (p ∷ ps) = (order_at h p.0 ≡ Some p.1) × EachHeld h ps

later : (x i : ℕ) → i + 1 ≤ x → x - i ≡ suc (x - (i + 1))
later x i l = omega arith

each_later : (j i : ℕ) (o : Option ℕ) (xs : List (Option ℕ)) (ps : List (ℕ × ℕ)) → EachOf j (i + 1) xs ps → EachOf j i (o ∷ xs) ps
each_later j i o xs [] h = tt
each_later j i o xs (p ∷ ps) h =
    let l = h.0 in
    (omega arith, h.1, ap (λ k. get_or (o ∷ xs) k None) (later p.0 i l) ∙ h.2, each_later j i o xs ps h.3)

order_is : (j : ℕ) (o : Option ℕ) → has_order j o ≡ true → o ≡ Some j
order_is j None h = cc
order_is j (Some q) h = elim (cases_eq q j) [
  | inl same ↦ ap (λ x. Some x) same
  | inr other ↦ absurd (let e : (q == j) ≡ false = grind (arith, nat_tests, other) in cc)
]

each_choose : (b : Bool) (j i : ℕ) (o : Option ℕ) (xs : List (Option ℕ)) (ps : List (ℕ × ℕ)) → (b ≡ true → o ≡ Some j) → EachOf j i (o ∷ xs) ps → EachOf j i (o ∷ xs) (cond b ((i, j) ∷ ps) ps)
each_choose true j i o xs ps is h = (omega arith, refl, (let z : i - i ≡ zero = omega arith in ap (λ k. get_or (o ∷ xs) k None) z ∙ is refl), h)
each_choose false j i o xs ps is h = h

each_of : (j i : ℕ) (xs : List (Option ℕ)) → EachOf j i xs (pairs_of j i xs)
each_of j i [] = tt
each_of j i (o ∷ xs) = each_choose (has_order j o) j i o xs (pairs_of j (i + 1) xs) (order_is j o) (each_later j i o xs (pairs_of j (i + 1) xs) (each_of j (i + 1) xs))

held_of : (j : ℕ) (h : List (Option ℕ)) (ps : List (ℕ × ℕ)) → EachOf j 0 h ps → EachHeld h ps
held_of j h [] e = tt
held_of j h (p ∷ ps) e =
    let z : p.0 ≡ p.0 - 0 = omega arith in
    (ap (λ k. get_or h k None) z ∙ e.2 ∙ ap (λ x. Some x) (sym e.1), held_of j h ps e.3)

held_append : (h : List (Option ℕ)) (ps qs : List (ℕ × ℕ)) → EachHeld h ps → EachHeld h qs → EachHeld h (ps ++ qs)
held_append h [] qs a b = b
held_append h (p ∷ ps) qs a b = (a.0, held_append h ps qs a.1 b)

pub held_below : (n : ℕ) (h : List (Option ℕ)) → EachHeld h (pairs_below n h)
held_below zero h = tt
held_below (suc n) h = held_append h (pairs_below n h) (pairs_of n 0 h) (held_below n h) (held_of n h (pairs_of n 0 h) (each_of n 0 h))

-- ascending
asc_choose : (b : Bool) (j i : ℕ) (q : ℕ × ℕ) (ps : List (ℕ × ℕ)) → Precedes q (i, j) → IsAscendingFrom q ps → IsAscendingFrom (i, j) ps → IsAscendingFrom q (cond b ((i, j) ∷ ps) ps)
asc_choose true j i q ps a h k = (a, k)
asc_choose false j i q ps a h k = h

precedes_later : (q : ℕ × ℕ) (i j : ℕ) → Precedes q (i, j) → Precedes q (i + 1, j)
precedes_later q i j (inl l) = inl l
precedes_later q i j (inr l) = inr (l.0, (let m = l.1 in omega arith))

asc_of : (j i : ℕ) (xs : List (Option ℕ)) (q : ℕ × ℕ) → Precedes q (i, j) → IsAscendingFrom q (pairs_of j i xs)
asc_of j i [] q a = tt
asc_of j i (o ∷ xs) q a =
    asc_choose (has_order j o) j i q (pairs_of j (i + 1) xs) a (asc_of j (i + 1) xs q (precedes_later q i j a)) (asc_of j (i + 1) xs (i, j) (inr (refl, omega arith)))

asc_start_choose : (b : Bool) (j i : ℕ) (ps : List (ℕ × ℕ)) → IsAscendingFrom (i, j) ps → IsAscendingPlan ps → IsAscendingPlan (cond b ((i, j) ∷ ps) ps)
asc_start_choose true j i ps a h = a
asc_start_choose false j i ps a h = h

asc_start : (j i : ℕ) (xs : List (Option ℕ)) → IsAscendingPlan (pairs_of j i xs)
asc_start j i [] = tt
asc_start j i (o ∷ xs) = asc_start_choose (has_order j o) j i (pairs_of j (i + 1) xs) (asc_of j (i + 1) xs (i, j) (inr (refl, omega arith))) (asc_start j (i + 1) xs)

abbrev EachBelow : ℕ → List (ℕ × ℕ) → Type 0
EachBelow n [] = Unit {0}
EachBelow n (p ∷ ps) = (p.1 < n) × EachBelow n ps

below_append : (n : ℕ) (ps qs : List (ℕ × ℕ)) → EachBelow n ps → EachBelow n qs → EachBelow n (ps ++ qs)
below_append n [] qs a b = b
below_append n (p ∷ ps) qs a b = (a.0, below_append n ps qs a.1 b)

below_weaker : (n m : ℕ) (ps : List (ℕ × ℕ)) → n ≤ m → EachBelow n ps → EachBelow m ps
below_weaker n m [] l h = tt
below_weaker n m (p ∷ ps) l h = (let a = h.0 in omega arith, below_weaker n m ps l h.1)

below_of : (n j i : ℕ) (xs : List (Option ℕ)) (ps : List (ℕ × ℕ)) → j < n → EachOf j i xs ps → EachBelow n ps
below_of n j i xs [] l h = tt
below_of n j i xs (p ∷ ps) l h = (let e = h.1 in omega arith, below_of n j i xs ps l h.3)

pub all_below : (n : ℕ) (h : List (Option ℕ)) → EachBelow n (pairs_below n h)
all_below zero h = tt
all_below (suc n) h = below_append (suc n) (pairs_below n h) (pairs_of n 0 h) (below_weaker n (suc n) (pairs_below n h) (omega arith) (all_below n h)) (below_of (suc n) n 0 h (pairs_of n 0 h) (omega arith) (each_of n 0 h))

asc_append_from : (n : ℕ) (q : ℕ × ℕ) (ps : List (ℕ × ℕ)) (h : List (Option ℕ)) → q.1 < n → EachBelow n ps → IsAscendingFrom q ps → IsAscendingFrom q (ps ++ pairs_of n 0 h)
asc_append_from n q [] h l b a = asc_of n 0 h q (inl l)
asc_append_from n q (p ∷ ps) h l b a = (a.0, asc_append_from n p ps h b.0 b.1 a.1)

asc_append : (n : ℕ) (ps : List (ℕ × ℕ)) (h : List (Option ℕ)) → EachBelow n ps → IsAscendingPlan ps → IsAscendingPlan (ps ++ pairs_of n 0 h)
asc_append n [] h b a = asc_start n 0 h
asc_append n (p ∷ ps) h b a = asc_append_from n p ps h b.0 b.1 a

pub ascending_below : (n : ℕ) (h : List (Option ℕ)) → IsAscendingPlan (pairs_below n h)
ascending_below zero h = tt
ascending_below (suc n) h = asc_append n (pairs_below n h) h (all_below n h) (ascending_below n h)

-- how often an order and a wagon are among the pairs
serves_choose : (b : Bool) (k j i : ℕ) (ps : List (ℕ × ℕ)) → serves k (cond b ((i, j) ∷ ps) ps) ≡ cond b (cond (j == k) 1 0) 0 + serves k ps
serves_choose true k j i ps = sum_by-cons (λ (p : ℕ × ℕ). cond (p.1 == k) 1 0) (i, j) ps
serves_choose false k j i ps = omega arith

uses_choose : (b : Bool) (x j i : ℕ) (ps : List (ℕ × ℕ)) → uses x (cond b ((i, j) ∷ ps) ps) ≡ cond b (cond (i == x) 1 0) 0 + uses x ps
uses_choose true x j i ps = sum_by-cons (λ (p : ℕ × ℕ). cond (p.0 == x) 1 0) (i, j) ps
uses_choose false x j i ps = omega arith

scaled : (b c : Bool) → cond b (cond c 1 0) 0 ≡ cond c 1 0 * cond b 1 0
scaled true true = refl
scaled true false = refl
scaled false true = refl
scaled false false = refl

times_zero : (n x : ℕ) → x ≡ 0 → n * x ≡ x
times_zero n x e = grind (arith, e)

times_once : (n x : ℕ) → n ≡ 1 → n * x ≡ x
times_once n x e = grind (arith, e)

times_none : (p : ℕ) → p * 0 ≡ 0
times_none p = omega arith

by_one : (x : ℕ) → x ≡ x * 1
by_one x = omega arith

swap_product : (a v p : ℕ) → v ≡ p → a * v ≡ p * a
swap_product a v p e = grind (arith, e)

spread : (a b c d : ℕ) → d ≡ b + c → a * d ≡ a * b + a * c
spread a b c d e = grind (arith, e)

none_at : (i x : ℕ) → i ≢ x → cond (i == x) 1 0 ≡ zero
none_at i x h = grind (arith, nat_tests, h)

one_at : (i x : ℕ) → i ≡ x → cond (i == x) 1 0 ≡ suc zero
one_at i x h = grind (arith, nat_tests, h)

none_other : (b : Bool) (i x : ℕ) → i ≢ x → cond b (cond (i == x) 1 0) 0 ≡ zero
none_other true i x h = none_at i x h
none_other false i x h = refl

one_same : (b : Bool) (i x : ℕ) → i ≡ x → cond b (cond (i == x) 1 0) 0 ≡ cond b (suc zero) 0
one_same true i x h = one_at i x h
one_same false i x h = refl

serves_of : (k j i : ℕ) (xs : List (Option ℕ)) → serves k (pairs_of j i xs) ≡ cond (j == k) 1 0 * served j xs
serves_of k j i [] = omega arith
serves_of k j i (o ∷ xs) =
    let rest = serves_of k j (i + 1) xs in
    let step = serves_choose (has_order j o) k j i (pairs_of j (i + 1) xs) in
    let cons = sum_by-cons (λ (q : Option ℕ). cond (has_order j q) 1 0) o xs in
    let scale = scaled (has_order j o) (j == k) in
    let split = spread (cond (j == k) 1 0) (cond (has_order j o) 1 0) (served j xs) (served j (o ∷ xs)) cons in
    omega (arith, rest, step, scale, split)

pub serves_below : (n k : ℕ) (h : List (Option ℕ)) → serves k (pairs_below n h) ≡ sum_below n (λ j. cond (j == k) 1 0 * served j h)
serves_below zero k h = refl
serves_below (suc n) k h =
    let rest = serves_below n k h in
    let add = sum_by-append (λ (p : ℕ × ℕ). cond (p.1 == k) 1 0) (pairs_below n h) (pairs_of n 0 h) in
    let last = serves_of k n 0 h in
    omega (arith, rest, add, last)

-- 1 where two numbers are the same, else 0
abbrev same_one : ℕ → ℕ → ℕ
same_one a b = cond (a == b) 1 0

flip : (a b : ℕ) → same_one a b ≡ same_one b a
flip a b = elim (cases_eq a b) [
  | inl same ↦ grind (arith, nat_tests, same)
  | inr other ↦ grind (arith, nat_tests, other)
]

pub serves_all : (n k : ℕ) (h : List (Option ℕ)) → k < n → serves k (pairs_below n h) ≡ served k h
serves_all n k h l =
    serves_below n k h ∙ sum_below-same n (λ j. cond (j == k) 1 0 * served j h) (λ j. cond (k == j) 1 0 * served j h) (λ j lj. ap (λ x. x * served j h) (flip j k)) ∙ sum_below-at n k (λ j. served j h) l

-- a wagon is among the pairs of order j once if it has the order
uses_before : (x j i : ℕ) (xs : List (Option ℕ)) → x < i → uses x (pairs_of j i xs) ≡ 0
uses_before x j i [] l = refl
uses_before x j i (o ∷ xs) l =
    let rest = uses_before x j (i + 1) xs (omega arith) in
    let step = uses_choose (has_order j o) x j i (pairs_of j (i + 1) xs) in
    let none = none_other (has_order j o) i x (omega arith) in
    omega (arith, rest, step, none)

uses_of : (x j i d : ℕ) (xs : List (Option ℕ)) → x ≡ i + d → uses x (pairs_of j i xs) ≡ one_if j (get_or xs d None)
uses_of x j i d [] e = refl
uses_of x j i zero (o ∷ xs) e =
    let rest = uses_before x j (i + 1) xs (omega arith) in
    let step = uses_choose (has_order j o) x j i (pairs_of j (i + 1) xs) in
    let here = one_same (has_order j o) i x (omega arith) in
    let test = one_if-test j o in
    omega (arith, rest, step, here, test)
uses_of x j i (suc d) (o ∷ xs) e =
    let rest = uses_of x j (i + 1) d xs (omega arith) in
    let step = uses_choose (has_order j o) x j i (pairs_of j (i + 1) xs) in
    let none = none_other (has_order j o) i x (omega arith) in
    omega (arith, rest, step, none)

pub uses_below : (n x : ℕ) (h : List (Option ℕ)) → uses x (pairs_below n h) ≡ sum_below n (λ j. one_if j (order_at h x))
uses_below zero x h = refl
uses_below (suc n) x h =
    let rest = uses_below n x h in
    let add = sum_by-append (λ (p : ℕ × ℕ). cond (p.0 == x) 1 0) (pairs_below n h) (pairs_of n 0 h) in
    let last = uses_of x n 0 x h (omega arith) in
    omega (arith, rest, add, last)

pub uses_once : (n : ℕ) (h : List (Option ℕ)) (x : ℕ) → uses x (pairs_below n h) ≤ 1
uses_once n h x = let u = uses_below n x h in let one = one_below n (order_at h x) in omega (arith, u, one)

-- the pairs are a plan's list
pub plan_list : (n : ℕ) (h : List (Option ℕ)) → IsPlanList (pairs_below n h)
plan_list n h = record { ascending = ascending_below n h; once = uses_once n h }

allowed_held : (s : Kept) (ps : List (ℕ × ℕ)) → IsKept s → EachHeld s.order_of ps → AllAllowed s.table ps
allowed_held s [] state e = tt
allowed_held s (p ∷ ps) state e =
    let tight = state.held.tight p.0 p.1 e.0 in
    ((cell_wagon s.table p.0 p.1 tight.cost state.table tight.allowed, cell_order s.table p.0 p.1 tight.cost state.table tight.allowed, (tight.cost, tight.allowed)), allowed_held s ps state e.1)

-- pair by pair, the orders' prices are the costs and the wagons' prices
pairs_exact : (s : Kept) (ps : List (ℕ × ℕ)) → IsKept s → EachHeld s.order_of ps → sum_by (λ (p : ℕ × ℕ). slice_index s.v p.1) ps ≡ sum_by (pair_cost s.table) ps + sum_by (λ (p : ℕ × ℕ). slice_index s.u p.0) ps
pairs_exact s [] state e = refl
pairs_exact s (p ∷ ps) state e =
    let rest = pairs_exact s ps state e.1 in
    let tight = state.held.tight p.0 p.1 e.0 in
    let is = tight.tight in
    let cost : pair_cost s.table p ≡ tight.cost = ap (λ o. unwrap_or o 0) tight.allowed in
    let a = sum_by-cons (λ (q : ℕ × ℕ). slice_index s.v q.1) p ps in
    let b = sum_by-cons (pair_cost s.table) p ps in
    let c = sum_by-cons (λ (q : ℕ × ℕ). slice_index s.u q.0) p ps in
    omega (arith, rest, is, cost, a, b, c)

-- a wagon is used once, or its price is 0
used_or_free : (s : Kept) (i : ℕ) (o : Option ℕ) → IsKept s → order_at s.order_of i ≡ o → uses i (pairs_below (order_count s.table) s.order_of) * slice_index s.u i ≡ slice_index s.u i
used_or_free s i None state e =
    let z = state.held.idle i e in
    times_zero (uses i (pairs_below (order_count s.table) s.order_of)) (slice_index s.u i) z
used_or_free s i (Some k) state e =
    let tight = state.held.tight i k e in
    let lk = cell_order s.table i k tight.cost state.table tight.allowed in
    let n = order_count s.table in
    let count : uses i (pairs_below n s.order_of) ≡ sum_below n (λ j. one_if j (Some k)) = uses_below n i s.order_of ∙ ap (λ o. sum_below n (λ j. one_if j o)) e in
    let same = sum_below-same n (λ j. one_if j (Some k)) (λ j. cond (k == j) 1 0 * 1) (λ j l. by_one (cond (k == j) 1 0)) in
    let at = sum_below-at n k (λ j. 1) lk in
    times_once (uses i (pairs_below n s.order_of)) (slice_index s.u i) (omega (arith, count, same, at))

paid : (l s v p : ℕ) → s ≤ l → (s < l → v ≡ p) → l * v ≡ s * v + p * (l - s)
paid l s v p le full = elim (cases_lt s l) [
  | inl less ↦
      let e : v ≡ p = full less in
      let whole : l ≡ s + (l - s) = omega arith in
      let split = distributes s (l - s) v in
      let turn : (l - s) * v ≡ p * (l - s) = swap_product (l - s) v p e in
      let there : l * v ≡ (s + (l - s)) * v = ap (λ n. n * v) whole in
      omega (arith, split, turn, there)
  | inr more ↦
      let e : l ≡ s = omega arith in
      let z : l - s ≡ 0 = omega arith in
      let none : p * (l - s) ≡ 0 = ap (λ n. p * n) z ∙ times_none p in
      let there : l * v ≡ s * v = ap (λ n. n * v) e in
      omega (arith, none, there)
]

-- with all units taken in, the pairs and prices are a certificate
pub certificate : (s : Kept) → IsKept s → ((k : ℕ) → k < order_count s.table → served k s.order_of ≤ lack_at s.table k) → ((k : ℕ) → k < order_count s.table → served k s.order_of < lack_at s.table k → slice_index s.v k ≡ penalty_at s.table k) → IsCertificate s.table (pairs_below (order_count s.table) s.order_of) s.u s.v
certificate s state within refused =
    let n = order_count s.table in
    let w = wagon_count s.table in
    let ps = pairs_below n s.order_of in
    let held = held_below n s.order_of in
    let allowed = allowed_held s ps state held in
    let exact = pairs_exact s ps state held in
    let count_orders = double_count (λ p. p.1) (slice_index s.v) n ps (orders_below s.table ps allowed) in
    let count_wagons = double_count (λ p. p.0) (slice_index s.u) w ps (wagons_below s.table ps allowed) in
    let each_wagon = sum_below-same w (λ i. uses i ps * slice_index s.u i) (slice_index s.u) (λ i l. used_or_free s i (order_at s.order_of i) state refl) in
    let all : sum_below w (slice_index s.u) ≡ sum s.u = subst (λ k. sum_below k (slice_index s.u) ≡ sum s.u) state.priced.wagons (sum_below-items s.u (length s.u) (omega arith) ∙ ap sum (take-length s.u)) in
    let each_order = sum_below-same n (λ j. lack_at s.table j * slice_index s.v j) (λ j. serves j ps * slice_index s.v j + missed_cost s.table ps j) (λ j l.
    let count = serves_all n j s.order_of l in
    let a = within j l in
    paid (lack_at s.table j) (serves j ps) (slice_index s.v j) (penalty_at s.table j) (omega arith) (λ less. refused j l (omega arith))) in
    let parts = sum_below-add n (λ j. serves j ps * slice_index s.v j) (missed_cost s.table ps) in
    record {
      wagons = state.priced.wagons;
      orders = state.priced.orders;
      plan = record {
        allowed = allowed;
        once = uses_once n s.order_of;
        within = λ j l. let count = serves_all n j s.order_of l in let a = within j l in omega arith;
      };
      no_gap = λ i j c li lj is. state.priced.no_gap i j c is;
      below_penalty = state.priced.below_penalty;
      balance = omega (arith, exact, count_orders, count_wagons, each_wagon, all, each_order, parts);
    }

-- with all units taken in, however they are counted
pub certificate_counted : (s : Kept) (taken : ℕ → ℕ) → IsKept s → AreCounted s taken → ((k : ℕ) → k < order_count s.table → taken k ≡ lack_at s.table k) → IsCertificate s.table (pairs_below (order_count s.table) s.order_of) s.u s.v
certificate_counted s taken state c full = certificate s state (λ k l. let f = full k l in let w = c.within k l in omega (arith, f, w)) (λ k l less. let f = full k l in c.refused k l (omega (arith, f, less)))
