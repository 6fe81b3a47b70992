use Rattle.std.proofs.Common.{◌≡◌, ◌+◌, ◌<◌, ◌≤◌, ℕ, Bool, true, false, cond, List, [], ◌∷◌, ◌++◌, length, refl, sym, ◌∙◌, arith, subst, append_assoc, append-nil, ap}
use Rattle.std.specs.Prelude.{◌==◌, ◌&&◌, nat_lt, Option, Some, None, is_some, slice_index, sum}
use Rattle.std.specs.List.{sum_by}
use Rattle.std.proofs.lemmas.List.Sums.{sum_by_push, sum_by-append, sum_by-cons}
use Rattle.std.proofs.lemmas.Bool.Decides.{nat_tests}
use Rattle.faults.specs.declared.faults.CheckFault.TheVariants.{WrongLengths, NotAllowed, UsedTwice, PriceGap, OverPenalty, SumsDiffer}
use Rattle.cost_table.specs.Table.{Table, cost_at, lack_at, penalty_at, wagon_count, order_count}
use Rattle.cost_table.specs.TableLimits.{IsTable}
use Rattle.cost_table.specs.Plan.{IsPlan, uses, serves, AllAllowed, cost_of}
use Rattle.cost_table.proofs.TableLemmas.{cost_at_within}
use Rattle.price_checker.specs.Certificate.{IsCertificate}
use Rattle.price_checker.specs.Faults.{first_fault, wrong_lengths, not_allowed, is_spent, used_twice, price_gap, gap_at, gap_of_wagon, over_penalty, penalty_gap, sums_differ, paid_by_orders}
use Rattle.price_checker.proofs.UsedPairs.{used_from, used_from-all}
use Rattle.price_checker.proofs.FirstBelow.{none_first, none_second, none_both, none_below, first_below_none}

tail_allowed : {A : Type 0} (b : Bool) (rest : Option A) (x : A) → cond b rest (Some x) ≡ None → (b ≡ true) × (rest ≡ None)
tail_allowed true rest x h = (refl, h)
tail_allowed false rest x h = cc

tail_unused : {A : Type 0} (b : Bool) (rest : Option A) (x : A) → cond b (Some x) rest ≡ None → (b ≡ false) × (rest ≡ None)
tail_unused true rest x h = cc
tail_unused false rest x h = (refl, h)

none_where_true : {A : Type 0} (b : Bool) (rest : Option A) (x : A) → b ≡ true → rest ≡ None → cond b rest (Some x) ≡ None
none_where_true b rest x h k = rw h k

none_where_false : {A : Type 0} (b : Bool) (rest : Option A) (x : A) → b ≡ false → rest ≡ None → cond b (Some x) rest ≡ None
none_where_false b rest x h k = rw h k

-- the tests, one by one: where each finds nothing, and that it then finds nothing
lengths_right : (t : Table) (u v : List ℕ) → wrong_lengths t u v ≡ None → (length u ≡ wagon_count t) × (length v ≡ order_count t)
lengths_right t u v h =
    let f = tail_allowed (length u == wagon_count t && (length v == order_count t)) None WrongLengths h in
    (grind (arith, nat_tests, f), grind (arith, nat_tests, f))

lengths_free : (t : Table) (u v : List ℕ) → length u ≡ wagon_count t → length v ≡ order_count t → wrong_lengths t u v ≡ None
lengths_free t u v h k = none_where_true (length u == wagon_count t && (length v == order_count t)) None WrongLengths (grind (arith, nat_tests, h, k)) refl

cost_there : (t : Table) (p : ℕ × ℕ) (o : Option ℕ) → cost_at t p.0 p.1 ≡ o → is_some o ≡ true → (c : ℕ) × (cost_at t p.0 p.1 ≡ Some c)
cost_there t p None is h = cc
cost_there t p (Some c) is h = (c, is)

-- each pair is one of the table's
abbrev pub AllInRange : Table → List (ℕ × ℕ) → Type 0
AllInRange t [] = Unit {0}
AllInRange t (p ∷ ps) = (p.0 < wagon_count t) × (p.1 < order_count t) × AllInRange t ps

in_range_allowed : (t : Table) (ps : List (ℕ × ℕ)) → AllInRange t ps → not_allowed t ps ≡ None → AllAllowed t ps
in_range_allowed t [] range h = tt
in_range_allowed t (p ∷ ps) range h =
    let f = tail_allowed (is_some (cost_at t p.0 p.1)) (not_allowed t ps) (NotAllowed p.0 p.1) h in
    ((range.0, range.1, cost_there t p (cost_at t p.0 p.1) refl f.0), in_range_allowed t ps range.2 f.1)

-- a pair with a cost is in range, where the table is one that the program keeps
all_in_range : (t : Table) (ps : List (ℕ × ℕ)) → IsTable t → not_allowed t ps ≡ None → AllInRange t ps
all_in_range t [] legal h = tt
all_in_range t (p ∷ ps) legal h =
    let f = tail_allowed (is_some (cost_at t p.0 p.1)) (not_allowed t ps) (NotAllowed p.0 p.1) h in
    let c = cost_there t p (cost_at t p.0 p.1) refl f.0 in
    let within = cost_at_within t p.0 p.1 c.0 legal c.1 in
    (within.wagon, within.order, all_in_range t ps legal f.1)

pub all_allowed : (t : Table) (ps : List (ℕ × ℕ)) → IsTable t → not_allowed t ps ≡ None → AllAllowed t ps
all_allowed t ps legal h = in_range_allowed t ps (all_in_range t ps legal h) h

allowed_free : (t : Table) (ps : List (ℕ × ℕ)) → AllAllowed t ps → not_allowed t ps ≡ None
allowed_free t [] h = refl
allowed_free t (p ∷ ps) h =
    let there : is_some (cost_at t p.0 p.1) ≡ true = ap is_some h.0.2.1 in
    none_where_true (is_some (cost_at t p.0 p.1)) (not_allowed t ps) (NotAllowed p.0 p.1) there (allowed_free t ps h.1)

-- what stands before keeps within its bounds, and so does the whole
record Within (t : Table) (ps : List (ℕ × ℕ)) : Type 0 where
  pub once : (i : ℕ) → uses i ps ≤ 1
  pub lacked : (j : ℕ) → serves j ps ≤ lack_at t j

uses_push : (i : ℕ) (ps : List (ℕ × ℕ)) (p : ℕ × ℕ) → uses i (ps ++ p ∷ []) ≡ uses i ps + cond (p.0 == i) 1 0
uses_push i ps p = sum_by_push (λ (q : ℕ × ℕ). cond (q.0 == i) 1 0) ps p

serves_push : (j : ℕ) (ps : List (ℕ × ℕ)) (p : ℕ × ℕ) → serves j (ps ++ p ∷ []) ≡ serves j ps + cond (p.1 == j) 1 0
serves_push j ps p = sum_by_push (λ (q : ℕ × ℕ). cond (q.1 == j) 1 0) ps p

lacked_own : (t : Table) (before : List (ℕ × ℕ)) (p : ℕ × ℕ) → is_spent t before p ≡ false → serves p.1 (before ++ p ∷ []) ≤ lack_at t p.1
lacked_own t before p h = let e = serves_push p.1 before p in grind (arith, nat_tests, e, h)

lacked_push : (t : Table) (before : List (ℕ × ℕ)) (p : ℕ × ℕ) (j : ℕ) (b : Bool) → (p.1 == j) ≡ b → serves p.1 (before ++ p ∷ []) ≤ lack_at t p.1 → serves j before ≤ lack_at t j → serves j (before ++ p ∷ []) ≤ lack_at t j
lacked_push t before p j true is own k =
    let same : p.1 ≡ j = grind (arith, nat_tests, is) in
    subst (λ (x : ℕ). serves x (before ++ p ∷ []) ≤ lack_at t x) same own
lacked_push t before p j false is own k = let e = serves_push j before p in grind (arith, nat_tests, e, is, k)

one_more : (t : Table) (before : List (ℕ × ℕ)) (p : ℕ × ℕ) → Within t before → is_spent t before p ≡ false → Within t (before ++ p ∷ [])
one_more t before p w h = record {
  once = λ i. let e = uses_push i before p in let k = w.once i in grind (arith, nat_tests, e, k, h);
  lacked = λ j. lacked_push t before p j (p.1 == j) refl (lacked_own t before p h) (w.lacked j);
}

all_within : (t : Table) (before ps : List (ℕ × ℕ)) → Within t before → used_from t before ps ≡ None → Within t (before ++ ps)
all_within t before [] w h = subst (Within t) (sym (append-nil before)) w
all_within t before (p ∷ ps) w h =
    let f = tail_unused (is_spent t before p) (used_from t (before ++ p ∷ []) ps) (UsedTwice p.0 p.1) h in
    subst (Within t) (append_assoc before (p ∷ []) ps) (all_within t (before ++ p ∷ []) ps (one_more t before p w f.0) f.1)

-- pairs without the first three faults are a plan
in_range_plan : (t : Table) (ps : List (ℕ × ℕ)) → AllInRange t ps → not_allowed t ps ≡ None → used_twice t ps ≡ None → IsPlan t ps
in_range_plan t ps range h k =
    let within = all_within t [] ps (record { once = λ i. omega arith; lacked = λ j. omega arith }) (used_from-all t ps ∙ k) in
    record { allowed = in_range_allowed t ps range h; once = within.once; within = λ j l. within.lacked j }

pub plan_of_pairs : (t : Table) (ps : List (ℕ × ℕ)) → IsTable t → not_allowed t ps ≡ None → used_twice t ps ≡ None → IsPlan t ps
plan_of_pairs t ps legal h k = in_range_plan t ps (all_in_range t ps legal h) h k

count_split : (f : ℕ × ℕ → ℕ) (before ps : List (ℕ × ℕ)) (p : ℕ × ℕ) → sum_by f (before ++ p ∷ ps) ≡ sum_by f before + (f p + sum_by f ps)
count_split f before ps p = omega (arith, sum_by-append f before (p ∷ ps), sum_by-cons f p ps)

uses_split : (i : ℕ) (before ps : List (ℕ × ℕ)) (p : ℕ × ℕ) → uses i (before ++ p ∷ ps) ≡ uses i before + (cond (p.0 == i) 1 0 + uses i ps)
uses_split i before ps p = count_split (λ q. cond (q.0 == i) 1 0) before ps p

serves_split : (j : ℕ) (before ps : List (ℕ × ℕ)) (p : ℕ × ℕ) → serves j (before ++ p ∷ ps) ≡ serves j before + (cond (p.1 == j) 1 0 + serves j ps)
serves_split j before ps p = count_split (λ q. cond (q.1 == j) 1 0) before ps p

not_spent : (t : Table) (before ps : List (ℕ × ℕ)) (p : ℕ × ℕ) → uses p.0 (before ++ p ∷ ps) ≤ 1 → serves p.1 (before ++ p ∷ ps) ≤ lack_at t p.1 → is_spent t before p ≡ false
not_spent t before ps p once within =
    let u = uses_split p.0 before ps p in
    let s = serves_split p.1 before ps p in
    grind (arith, nat_tests, u, s, once, within)

used_free : (t : Table) (before ps : List (ℕ × ℕ)) → AllAllowed t ps → ((i : ℕ) → uses i (before ++ ps) ≤ 1) → ((j : ℕ) → j < order_count t → serves j (before ++ ps) ≤ lack_at t j) → used_from t before ps ≡ None
used_free t before [] allowed once within = refl
used_free t before (p ∷ ps) allowed once within =
    let fresh = not_spent t before ps p (once p.0) (within p.1 allowed.0.1) in
    let same = append_assoc before (p ∷ []) ps in
    let rest = used_free t (before ++ p ∷ []) ps allowed.1
    (λ i. subst (λ (l : List (ℕ × ℕ)). uses i l ≤ 1) (sym same) (once i))
    (λ j l. subst (λ (x : List (ℕ × ℕ)). serves j x ≤ lack_at t j) (sym same) (within j l)) in
    none_where_false (is_spent t before p) (used_from t (before ++ p ∷ []) ps) (UsedTwice p.0 p.1) fresh rest

no_gap_at : (i j : ℕ) (o : Option ℕ) (u v c : ℕ) → o ≡ Some c → gap_at i j o u v ≡ None → v ≤ c + u
no_gap_at i j None u v c is h = cc
no_gap_at i j (Some x) u v c is h = let f = tail_unused (nat_lt (x + u) v) None (PriceGap i j) h in grind (arith, nat_tests, f, is)

gap_free : (i j : ℕ) (o : Option ℕ) (u v : ℕ) → ((c : ℕ) → o ≡ Some c → v ≤ c + u) → gap_at i j o u v ≡ None
gap_free i j None u v h = refl
gap_free i j (Some x) u v h =
    let fits : v ≤ x + u = h x refl in
    none_where_false (nat_lt (x + u) v) None (PriceGap i j) (grind (arith, nat_tests, fits)) refl

below_at : (p v j : ℕ) → cond (nat_lt p v) (Some (OverPenalty j)) None ≡ None → v ≤ p
below_at p v j h = let f = tail_unused (nat_lt p v) None (OverPenalty j) h in grind (arith, nat_tests, f)

penalty_free : (p v j : ℕ) → v ≤ p → cond (nat_lt p v) (Some (OverPenalty j)) None ≡ None
penalty_free p v j h = none_where_false (nat_lt p v) None (OverPenalty j) (grind (arith, nat_tests, h)) refl

sums_same : (a b : ℕ) → cond (a == b) None (Some (SumsDiffer a b)) ≡ None → a ≡ b
sums_same a b h = let f = tail_allowed (a == b) None (SumsDiffer a b) h in grind (arith, nat_tests, f)

sums_free : (a b : ℕ) → a ≡ b → cond (a == b) None (Some (SumsDiffer a b)) ≡ None
sums_free a b h = none_where_true (a == b) None (SumsDiffer a b) (grind (arith, nat_tests, h)) refl

-- pairs in range and prices with no fault are a certificate
pub in_range_certified : (t : Table) (ps : List (ℕ × ℕ)) (u v : List ℕ) → AllInRange t ps → first_fault t ps u v ≡ None → IsCertificate t ps u v
in_range_certified t ps u v range h0 =
    let h1 = none_second (wrong_lengths t u v) _ h0 in
    let h2 = none_second (not_allowed t ps) _ h1 in
    let h3 = none_second (used_twice t ps) _ h2 in
    let h4 = none_second (price_gap t u v) _ h3 in
    let lengths = lengths_right t u v (none_first _ _ h0) in
    record {
      wagons = lengths.0;
      orders = lengths.1;
      plan = in_range_plan t ps range (none_first _ _ h1) (none_first _ _ h2);
      no_gap = λ i j c li lj is. no_gap_at i j (cost_at t i j) (slice_index u i) (slice_index v j) c is (none_below (order_count t) _ (none_below (wagon_count t) _ (none_first _ _ h3) i li) j lj);
      below_penalty = λ j l. below_at (penalty_at t j) (slice_index v j) j (none_below (order_count t) _ (none_first _ _ h4) j l);
      balance = sums_same _ _ (none_second (over_penalty t v) _ h4);
    }

pub certified : (t : Table) (ps : List (ℕ × ℕ)) (u v : List ℕ) → IsTable t → first_fault t ps u v ≡ None → IsCertificate t ps u v
certified t ps u v legal h = in_range_certified t ps u v (all_in_range t ps legal (none_first _ _ (none_second (wrong_lengths t u v) _ h))) h

-- a certificate has no fault
pub fault_free : (t : Table) (ps : List (ℕ × ℕ)) (u v : List ℕ) → IsCertificate t ps u v → first_fault t ps u v ≡ None
fault_free t ps u v c =
    let lengths = lengths_free t u v c.wagons c.orders in
    let allowed = allowed_free t ps c.plan.allowed in
    let used : used_twice t ps ≡ None = sym (used_from-all t ps) ∙ used_free t [] ps c.plan.allowed c.plan.once c.plan.within in
    let gaps : price_gap t u v ≡ None = first_below_none (wagon_count t) (λ i. gap_of_wagon t i (slice_index u i) v)
    (λ i li. first_below_none (order_count t) (λ j. gap_at i j (cost_at t i j) (slice_index u i) (slice_index v j))
    (λ j lj. gap_free i j (cost_at t i j) (slice_index u i) (slice_index v j) (λ cost is. c.no_gap i j cost li lj is))) in
    let penalties : over_penalty t v ≡ None = first_below_none (order_count t) (penalty_gap t v) (λ j l. penalty_free (penalty_at t j) (slice_index v j) j (c.below_penalty j l)) in
    let sums : sums_differ t ps u v ≡ None = sums_free (cost_of t ps + sum u) (paid_by_orders t v) c.balance in
    none_both _ _ lengths (none_both _ _ allowed (none_both _ _ used (none_both _ _ gaps (none_both _ _ penalties sums))))
