-- The plans that have a pair are the pair and a plan that leaves it room. The best of them is found where the pair is its wagon's
-- only one, and costs nothing.
use Rattle.std.proofs.Common.{◌≡◌, ◌∙◌, ◌+◌, ◌-◌, ◌*◌, ◌<◌, ◌≤◌, ℕ, cond, Bool, true, false, List, [], ◌∷◌, Option, None, Some, get_or, inl, inr, ap, arith, refl, sym, subst}
use Rattle.std.specs.Prelude.{◌==◌, ◌≢◌, unwrap_or}
use Rattle.std.specs.List.{sum_by}
use Rattle.std.proofs.lemmas.Bool.{cases_Bool, cases_lt}
use Rattle.std.proofs.lemmas.Bool.Decides.{nat_tests}
use Rattle.std.proofs.lemmas.List.{get_or-set_same}
use Rattle.std.proofs.lemmas.List.FromFn.{get_or-map-range_with_len}
use Rattle.std.proofs.lemmas.List.Sums.{sum_by-cons}
use Rattle.cost_table.specs.Table.{Table, cost_at, lack_at, order_count, penalty_at, wagon_count}
use Rattle.cost_table.specs.TableRows.{cost_in, costs_of}
use Rattle.cost_table.specs.TableLimits.{IsTable}
use Rattle.cost_table.specs.Plan.{AllAllowed, IsAllowed, IsPlan, cost_of, missed_cost, pair_cost, serves, uses}
use Rattle.cost_table.proofs.Sums.{sum_below-le}
use Rattle.plan_bounds.specs.Bounds.{HasPair}
use Rattle.plan_bounds.proofs.NewPairs.{same_pair}
use Rattle.exact_costs.specs.LeastCosts.{IsAny, IsLeastOver}
use Rattle.exact_costs.specs.inner.Changed.{with_free_pair}
use Rattle.exact_costs.proofs.Sums.{same_cost, serves-here, serves-other, uses-here, uses-other}
use Rattle.exact_costs.proofs.Removed.{Removed, remove_order, remove_pair, remove_wagon}
use Rattle.exact_costs.proofs.Agreeing.{AgreeBut, agree-with_costs, agree_back, idle_allowed, idle_costs, same_missed, same_within}

-- ---- what stands beside a pair

-- beside the pair the wagon is idle, and the order is left room for one wagon
pub record IsBeside (t : Table) (i j : ℕ) (rest : List (ℕ × ℕ)) : Type 0 where
  pub plan : IsPlan t ((i, j) ∷ rest)
  pub idle : uses i rest ≡ 0

once_more : (i : ℕ) (q : ℕ × ℕ) (rest : List (ℕ × ℕ)) → q.0 ≡ i → uses i (q ∷ rest) ≤ 1 → uses i rest ≡ 0
once_more i q rest e once = let here = uses-here i q rest e in omega (arith, once, here)

beside : (t : Table) (i j : ℕ) (rest : List (ℕ × ℕ)) → IsPlan t ((i, j) ∷ rest) → IsBeside t i j rest
beside t i j rest plan = record { plan = plan; idle = once_more i (i, j) rest refl (plan.once i) }

-- a plan of another order of the same pairs
reordered : (t : Table) (ps : List (ℕ × ℕ)) (r : Removed t ps) → IsPlan t ps → IsPlan t (r.pair ∷ r.rest)
reordered t ps r plan =
    let same = λ (f : ℕ × ℕ → ℕ). r.sums f ∙ sym (sum_by-cons f r.pair r.rest) in
    record {
      allowed = (r.is_allowed, r.rest_allowed);
      once = λ k. let once = plan.once k in let e = same (λ (q : ℕ × ℕ). cond (q.0 == k) 1 0) in omega (arith, once, e);
      within = λ k l. let within = plan.within k l in let e = same (λ (q : ℕ × ℕ). cond (q.1 == k) 1 0) in omega (arith, within, e);
    }

reordered_cost : (t : Table) (ps : List (ℕ × ℕ)) (r : Removed t ps) → cost_of t (r.pair ∷ r.rest) ≡ cost_of t ps
reordered_cost t ps r = same_cost t (r.pair ∷ r.rest) ps (λ f. sum_by-cons f r.pair r.rest ∙ sym (r.sums f))

-- a plan that has the pair, with the pair in front
pub record InFront (t : Table) (i j : ℕ) (ps : List (ℕ × ℕ)) : Type 0 where
  pub rest : List (ℕ × ℕ)
  pub is_beside : IsBeside t i j rest
  pub cost : cost_of t ((i, j) ∷ rest) ≡ cost_of t ps

put_in_front : (t : Table) (i j : ℕ) (ps : List (ℕ × ℕ)) → IsPlan t ps → (r : Removed t ps) → r.pair ≡ (i, j) → InFront t i j ps
put_in_front t i j ps plan r is = record {
  rest = r.rest;
  is_beside = beside t i j r.rest (subst (λ (q : ℕ × ℕ). IsPlan t (q ∷ r.rest)) is (reordered t ps r plan));
  cost = ap (λ (q : ℕ × ℕ). cost_of t (q ∷ r.rest)) (sym is) ∙ reordered_cost t ps r;
}

pub in_front : (t : Table) (i j : ℕ) (ps : List (ℕ × ℕ)) → IsPlan t ps → HasPair i j ps → InFront t i j ps
in_front t i j ps plan has =
    let r = remove_pair t i j ps plan.allowed has in
    put_in_front t i j ps plan r.removed r.pair

-- ---- in tables that agree but for the wagon

beside_moves : (i j : ℕ) (t s : Table) → AgreeBut i t s → IsAllowed s (i, j) → (rest : List (ℕ × ℕ)) → IsBeside t i j rest → IsPlan s ((i, j) ∷ rest)
beside_moves i j t s a here rest b = record {
  allowed = (here, idle_allowed i t s a rest b.idle b.plan.allowed.1);
  once = b.plan.once;
  within = same_within i t s a ((i, j) ∷ rest) b.plan.within;
}

-- the costs of the two differ as those of the pair do
cost_moves : (i j : ℕ) (t s : Table) → AgreeBut i t s → (rest : List (ℕ × ℕ)) → uses i rest ≡ 0
    → cost_of s ((i, j) ∷ rest) + pair_cost t (i, j) ≡ cost_of t ((i, j) ∷ rest) + pair_cost s (i, j)
cost_moves i j t s a rest idle =
    let others = idle_costs i t s a rest idle in
    let missed = same_missed i t s a ((i, j) ∷ rest) in
    omega (arith, others, missed, sum_by-cons (pair_cost s) (i, j) rest, sum_by-cons (pair_cost t) (i, j) rest)

-- ---- the table in which the pair costs nothing

abbrev nothing : Option ℕ
nothing = None

free_cost : (t : Table) (i j k : ℕ) → i < wagon_count t → k < order_count t → cost_at (with_free_pair t i j) i k ≡ cond (j == k) (Some 0) None
free_cost t i j k l m =
    ap (λ (costs : List (Option ℕ)). get_or costs k None) (get_or-set_same t.costs i (costs_of (order_count t) ((j, 0) ∷ [])) [] l)
    ∙ get_or-map-range_with_len (cost_in ((j, 0) ∷ [])) 0 (order_count t) k k None m (omega arith)

free_here : (j : ℕ) → cond (j == j) (Some 0) nothing ≡ Some 0
free_here j = grind (arith, nat_tests)

none_some : (n : ℕ) (o : Option ℕ) → o ≡ None → o ≡ Some n → ⊥
none_some n o e f = cc

free_only : (j k cost : ℕ) (b : Bool) → (j == k) ≡ b → cond b (Some 0) nothing ≡ Some cost → k ≡ j
free_only j k cost true e is = grind (arith, nat_tests, e)
free_only j k cost false e is = absurd (none_some cost None refl is)

free_allowed : (t : Table) (i j : ℕ) → IsAllowed t (i, j) → IsAllowed (with_free_pair t i j) (i, j)
free_allowed t i j h =
    let a = agree-with_costs t i (costs_of (order_count t) ((j, 0) ∷ [])) in
    (omega (arith, a.wagons, h.0), h.1, (0, free_cost t i j j h.0 h.1 ∙ free_here j))

free_pair_cost : (t : Table) (i j : ℕ) → IsAllowed t (i, j) → pair_cost (with_free_pair t i j) (i, j) ≡ 0
free_pair_cost t i j h = ap (λ o. unwrap_or o 0) (free_cost t i j j h.0 h.1 ∙ free_here j)

-- the wagon's pairs there are of the order
free_order : (t : Table) (i j : ℕ) → i < wagon_count t → (q : ℕ × ℕ) → IsAllowed (with_free_pair t i j) q → q.0 ≡ i → q.1 ≡ j
free_order t i j l q h e =
    let there : cost_at (with_free_pair t i j) i q.1 ≡ Some h.2.0 = ap (λ (k : ℕ). cost_at (with_free_pair t i j) k q.1) (sym e) ∙ h.2.1 in
    free_only j q.1 h.2.0 (j == q.1) refl (sym (free_cost t i j q.1 l h.1) ∙ there)

-- ---- a plan there becomes one with the pair, and costs no more

-- the order misses no more wagons where it gets more
missed_less : (p l a b : ℕ) → a ≤ b → p * (l - b) ≤ p * (l - a)
missed_less p l a b h = let le : l - b ≤ l - a = omega (arith, h) in grind (arith, le)

record Taken (s : Table) (i j : ℕ) (ps : List (ℕ × ℕ)) : Type 0 where
  rest : List (ℕ × ℕ)
  is_beside : IsBeside s i j rest
  cheaper : cost_of s ((i, j) ∷ rest) ≤ cost_of s ps

-- pairs that leave the order room, where the wagon is idle, and to which the pair is added
record LeavesRoom (s : Table) (i j : ℕ) (ps rest : List (ℕ × ℕ)) : Type 0 where
  allowed : AllAllowed s rest
  once : (k : ℕ) → uses k rest ≤ uses k ps
  others : (k : ℕ) → k ≢ j → serves k rest ≡ serves k ps
  room : serves j rest + 1 ≤ lack_at s j
  no_less : serves j ps ≤ serves j rest + 1
  costs : sum_by (pair_cost s) rest ≤ sum_by (pair_cost s) ps

served_there : (j k n l : ℕ) (rest ps : List (ℕ × ℕ)) (i : ℕ) → ((k : ℕ) → k ≢ j → serves k rest ≡ serves k ps) → serves j rest + 1 ≤ n → serves j ps ≤ serves j rest + 1
    → (k ≡ j → l ≡ n) → serves k ps ≤ l → (serves k ((i, j) ∷ rest) ≤ l) × (serves k ps ≤ serves k ((i, j) ∷ rest))
served_there j k n l rest ps i others room no_less same within =
    elim (cases_Bool (j == k)) [
      | inl e ↦
          let is : j ≡ k = grind (arith, nat_tests, e) in
          let here = serves-here k (i, j) rest is in
          let lack = same (sym is) in
          let served : serves j rest ≡ serves k rest = ap (λ (n : ℕ). serves n rest) is in
          let had : serves j ps ≡ serves k ps = ap (λ (n : ℕ). serves n ps) is in
          (omega (arith, here, lack, served, room), omega (arith, here, served, had, no_less))
      | inr e ↦
          let other : j ≢ k = grind (arith, nat_tests, e) in
          let there = serves-other k (i, j) rest other in
          let rest_is = others k (λ e. other (sym e)) in
          (omega (arith, there, rest_is, within), omega (arith, there, rest_is))
    ]

take_pair : (s : Table) (i j : ℕ) → IsAllowed s (i, j) → pair_cost s (i, j) ≡ 0 → (ps rest : List (ℕ × ℕ)) → IsPlan s ps → uses i ps ≡ 0 → LeavesRoom s i j ps rest → Taken s i j ps
take_pair s i j here free ps rest plan idle room =
    let served = λ (k : ℕ) (l : k < order_count s). served_there j k (lack_at s j) (lack_at s k) rest ps i room.others room.room room.no_less (λ e. ap (lack_at s) e) (plan.within k l) in
    let stays : uses i rest ≡ 0 = let once = room.once i in omega (arith, once, idle) in
    let missed = sum_below-le (order_count s) (missed_cost s ((i, j) ∷ rest)) (missed_cost s ps)
    (λ k l. missed_less (penalty_at s k) (lack_at s k) (serves k ps) (serves k ((i, j) ∷ rest)) (served k l).1) in
    let costs = room.costs in
    record {
      rest = rest;
      is_beside = record {
        plan = record {
          allowed = (here, room.allowed);
          once = λ k. used_once k stays (room.once k) (plan.once k);
          within = λ k l. (served k l).0;
        };
        idle = stays;
      };
      cheaper = omega (arith, missed, costs, free, sum_by-cons (pair_cost s) (i, j) rest);
    } where
      used_once : (k : ℕ) → uses i rest ≡ 0 → uses k rest ≤ uses k ps → uses k ps ≤ 1 → uses k ((i, j) ∷ rest) ≤ 1
      used_once k stays no_more once =
          elim (cases_Bool (i == k)) [
            | inl e ↦
                let is : i ≡ k = grind (arith, nat_tests, e) in
                let here = uses-here k (i, j) rest is in
                let none : uses k rest ≡ 0 = ap (λ (n : ℕ). uses n rest) (sym is) ∙ stays in
                omega (arith, here, none)
            | inr e ↦
                let other : i ≢ k = grind (arith, nat_tests, e) in
                let there = uses-other k (i, j) rest other in
                omega (arith, there, no_more, once)
          ]

-- the order has room as it is
room_there : (s : Table) (i j : ℕ) (ps : List (ℕ × ℕ)) → IsPlan s ps → serves j ps < lack_at s j → LeavesRoom s i j ps ps
room_there s i j ps plan l = record {
  allowed = plan.allowed;
  once = λ k. omega arith;
  others = λ k other. refl;
  room = omega (arith, l);
  no_less = omega arith;
  costs = omega arith;
}

-- it has room once a pair is removed
room_made : (s : Table) (i j : ℕ) (ps : List (ℕ × ℕ)) → IsPlan s ps → j < order_count s → (r : Removed s ps) → r.pair.1 ≡ j → LeavesRoom s i j ps r.rest
room_made s i j ps plan l r is =
    let cost = r.sums (pair_cost s) in
    let served = r.sums (λ (q : ℕ × ℕ). cond (q.1 == j) 1 0) ∙ sym (sum_by-cons (λ (q : ℕ × ℕ). cond (q.1 == j) 1 0) r.pair r.rest) in
    let here = serves-here j r.pair r.rest is in
    let within = plan.within j l in
    record {
      allowed = r.rest_allowed;
      once = λ k. let used = r.sums (λ (q : ℕ × ℕ). cond (q.0 == k) 1 0) in omega (arith, used);
      others = λ k other. let all = r.sums (λ (q : ℕ × ℕ). cond (q.1 == k) 1 0) ∙ sym (sum_by-cons (λ (q : ℕ × ℕ). cond (q.1 == k) 1 0) r.pair r.rest) in
          let there = serves-other k r.pair r.rest (λ e. other (sym e ∙ is)) in omega (arith, all, there);
      room = omega (arith, served, here, within);
      no_less = omega (arith, served, here);
      costs = omega (arith, cost);
    }

taken_idle : (s : Table) (i j : ℕ) → IsAllowed s (i, j) → pair_cost s (i, j) ≡ 0 → 1 ≤ lack_at s j → (ps : List (ℕ × ℕ)) → IsPlan s ps → uses i ps ≡ 0 → Taken s i j ps
taken_idle s i j here free lacks ps plan idle =
    elim (cases_lt (serves j ps) (lack_at s j)) [
      | inl l ↦ take_pair s i j here free ps ps plan idle (room_there s i j ps plan l)
      | inr l ↦
          let r = remove_order s j ps plan.allowed (omega (arith, l, lacks)) in
          take_pair s i j here free ps r.removed.rest plan idle (room_made s i j ps plan here.1 r.removed r.order)
    ]

taken : (t : Table) (i j : ℕ) → IsAllowed t (i, j) → 1 ≤ lack_at t j → (ps : List (ℕ × ℕ)) → IsPlan (with_free_pair t i j) ps → Taken (with_free_pair t i j) i j ps
taken t i j h lacks ps plan =
    let s = with_free_pair t i j in
    elim (cases_lt 0 (uses i ps)) [
      | inl l ↦
          let r = remove_wagon s i ps plan.allowed l in
          let order = free_order t i j h.0 r.removed.pair r.removed.is_allowed r.wagon in
          let front = put_in_front s i j ps plan r.removed (same_pair r.removed.pair.0 r.removed.pair.1 i j r.wagon order) in
          let cost = front.cost in
          record { rest = front.rest; is_beside = front.is_beside; cheaper = omega (arith, cost) }
      | inr l ↦ taken_idle s i j (free_allowed t i j h) (free_pair_cost t i j h) lacks ps plan (omega (arith, l))
    ]

-- ---- so the best plan with the pair costs what the best plan does there, and the pair

pub pair_is_free : (t : Table) (i j km n : ℕ) → IsTable t → IsAllowed t (i, j) → cost_at t i j ≡ Some km
    → IsLeastOver (with_free_pair t i j) IsAny n → IsLeastOver t (HasPair i j) (n + km)
pair_is_free t i j km n legal h is best =
    let s = with_free_pair t i j in
    let to : AgreeBut i t s = agree-with_costs t i (costs_of (order_count t) ((j, 0) ∷ [])) in
    let back = agree_back i t s to in
    let cost : pair_cost t (i, j) ≡ km = ap (λ o. unwrap_or o 0) is in
    let free = free_pair_cost t i j h in
    let lacks : 1 ≤ lack_at t j = (legal.lacks j 0 h.1).0 in
    let took = taken t i j h lacks best.plan best.of_table in
    let there = best.least ((i, j) ∷ took.rest) took.is_beside.plan tt in
    let moved = cost_moves i j t s to took.rest took.is_beside.idle in
    let costs = best.costs in
    let cheaper = took.cheaper in
    record {
      plan = (i, j) ∷ took.rest;
      of_table = beside_moves i j s t back h took.rest took.is_beside;
      is_so = (0, omega arith, refl);
      costs = omega (arith, moved, cost, free, there, cheaper, costs);
      least = λ other plan has.
          let front = in_front t i j other plan has in
          let least = best.least ((i, j) ∷ front.rest) (beside_moves i j t s to (free_allowed t i j h) front.rest front.is_beside) tt in
          let moved = cost_moves i j t s to front.rest front.is_beside.idle in
          let same = front.cost in
          omega (arith, least, moved, same, cost, free);
    }
