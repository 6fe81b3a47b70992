-- Tables that agree in all but the costs of one wagon.
use Rattle.std.proofs.Common.{◌≡◌, ◌∙◌, ◌<◌, ◌≤◌, ℕ, List, [], ◌∷◌, Option, None, get_or, length, ap, arith, refl, sym, subst}
use Rattle.std.specs.Prelude.{◌≢◌, slice_index, unwrap_or}
use Rattle.std.specs.List.{sum_by}
use Rattle.std.proofs.lemmas.List.{get_or-set_other, length-set}
use Rattle.std.proofs.lemmas.List.Sums.{sum_by-cons}
use Rattle.cost_table.specs.Table.{Table, cost_at, lack_at, order_count, wagon_count}
use Rattle.cost_table.specs.Plan.{AllAllowed, IsPlan, cost_of, missed_cost, pair_cost, serves, sum_below, uses}
use Rattle.exact_costs.specs.inner.Changed.{with_costs}
use Rattle.exact_costs.proofs.Sums.{uses-here, uses-other}

pub record AgreeBut (i : ℕ) (t s : Table) : Type 0 where
  pub wagons : wagon_count s ≡ wagon_count t
  pub penalties : s.penalties ≡ t.penalties
  pub lacks : s.lacks ≡ t.lacks
  pub others : (k j : ℕ) → k ≢ i → cost_at s k j ≡ cost_at t k j

pub agree-with_costs : (t : Table) (i : ℕ) (costs : List (Option ℕ)) → AgreeBut i t (with_costs t i costs)
agree-with_costs t i costs = record {
  wagons = length-set t.costs i costs;
  penalties = refl;
  lacks = refl;
  others = λ k j other. ap (λ (row : List (Option ℕ)). get_or row j None) (get_or-set_other t.costs i k costs [] other);
}

pub agree_back : (i : ℕ) (t s : Table) → AgreeBut i t s → AgreeBut i s t
agree_back i t s a = record {
  wagons = sym a.wagons;
  penalties = sym a.penalties;
  lacks = sym a.lacks;
  others = λ k j other. sym (a.others k j other);
}

-- ---- lists in which wagon i is idle

not_first : (i : ℕ) (q : ℕ × ℕ) (ps : List (ℕ × ℕ)) → uses i (q ∷ ps) ≡ 0 → q.0 ≢ i
not_first i q ps idle = λ e. let here = uses-here i q ps e in absurd (omega (arith, idle, here))

idle_rest : (i : ℕ) (q : ℕ × ℕ) (ps : List (ℕ × ℕ)) → uses i (q ∷ ps) ≡ 0 → uses i ps ≡ 0
idle_rest i q ps idle = sym (uses-other i q ps (not_first i q ps idle)) ∙ idle

pub idle_allowed : (i : ℕ) (t s : Table) → AgreeBut i t s → (ps : List (ℕ × ℕ)) → uses i ps ≡ 0 → AllAllowed t ps → AllAllowed s ps
idle_allowed i t s a [] idle h = tt
idle_allowed i t s a (q ∷ ps) idle h =
    let orders : order_count s ≡ order_count t = ap (λ (lacks : List ℕ). length lacks) a.lacks in
    ((omega (arith, a.wagons, h.0.0), omega (arith, orders, h.0.1), (h.0.2.0, a.others q.0 q.1 (not_first i q ps idle) ∙ h.0.2.1)), idle_allowed i t s a ps (idle_rest i q ps idle) h.1)

pub idle_costs : (i : ℕ) (t s : Table) → AgreeBut i t s → (ps : List (ℕ × ℕ)) → uses i ps ≡ 0 → sum_by (pair_cost s) ps ≡ sum_by (pair_cost t) ps
idle_costs i t s a [] idle = refl
idle_costs i t s a (q ∷ ps) idle =
    let rest = idle_costs i t s a ps (idle_rest i q ps idle) in
    let first : pair_cost s q ≡ pair_cost t q = ap (λ o. unwrap_or o 0) (a.others q.0 q.1 (not_first i q ps idle)) in
    omega (arith, rest, first, sum_by-cons (pair_cost s) q ps, sum_by-cons (pair_cost t) q ps)

-- what a plan misses costs the same
pub same_missed : (i : ℕ) (t s : Table) → AgreeBut i t s → (ps : List (ℕ × ℕ)) → sum_below (order_count s) (missed_cost s ps) ≡ sum_below (order_count t) (missed_cost t ps)
same_missed i t s a ps =
    let by = λ (penalties lacks : List ℕ). let r : Table = record { costs = t.costs; penalties = penalties; lacks = lacks } in sum_below (order_count r) (missed_cost r ps) in
    ap (λ (penalties : List ℕ). by penalties s.lacks) a.penalties ∙ ap (λ (lacks : List ℕ). by t.penalties lacks) a.lacks

pub same_within : (i : ℕ) (t s : Table) → AgreeBut i t s → (ps : List (ℕ × ℕ)) → ((j : ℕ) → j < order_count t → serves j ps ≤ lack_at t j)
    → (j : ℕ) → j < order_count s → serves j ps ≤ lack_at s j
same_within i t s a ps h =
    subst (λ (lacks : List ℕ). (j : ℕ) → j < length lacks → serves j ps ≤ slice_index lacks j) (sym a.lacks) h

pub idle_plan : (i : ℕ) (t s : Table) → AgreeBut i t s → (ps : List (ℕ × ℕ)) → uses i ps ≡ 0 → IsPlan t ps → IsPlan s ps
idle_plan i t s a ps idle plan = record {
  allowed = idle_allowed i t s a ps idle plan.allowed;
  once = plan.once;
  within = same_within i t s a ps plan.within;
}

pub idle_cost : (i : ℕ) (t s : Table) → AgreeBut i t s → (ps : List (ℕ × ℕ)) → uses i ps ≡ 0 → cost_of s ps ≡ cost_of t ps
idle_cost i t s a ps idle = omega (arith, idle_costs i t s a ps idle, same_missed i t s a ps)
