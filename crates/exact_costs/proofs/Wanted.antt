-- The table in which order j lacks n wagons and each that it misses costs the most that a table may have: what its prices say of the
-- plans of the table itself.
use Rattle.std.proofs.Common.{◌≡◌, ◌∙◌, ◌+◌, ◌-◌, ◌*◌, ◌<◌, ◌≤◌, ℕ, List, inl, inr, ap, arith, refl, sym}
use Rattle.std.specs.Prelude.{◌==◌, ◌≢◌, length, slice_index}
use Rattle.std.proofs.lemmas.Bool.{cases_Bool}
use Rattle.std.proofs.lemmas.Bool.Decides.{nat_tests}
use Rattle.std.proofs.lemmas.List.{get_or-set_other, get_or-set_same, length-set}
use Rattle.cost_table.specs.Table.{Table, lack_at, order_count, penalty_at}
use Rattle.cost_table.specs.TableLimits.{max_cost}
use Rattle.cost_table.specs.Plan.{IsPlan, cost_of, missed_cost, serves, sum_below}
use Rattle.price_checker.specs.Certificate.{IsCertificate}
use Rattle.price_checker.proofs.Duality.{weak_duality}
use Rattle.plan_bounds.proofs.Sums.{sum_below-change}
use Rattle.exact_costs.specs.inner.Changed.{with_wanted}
use Rattle.exact_costs.proofs.Lacks.{allowed_moves}

pub orders_of_wanted : (t : Table) (j n : ℕ) → order_count (with_wanted t j n) ≡ order_count t
orders_of_wanted t j n = length-set t.lacks j n

-- ---- plans of both tables

pub to_wanted : (t : Table) (j n : ℕ) (ps : List (ℕ × ℕ)) → j < order_count t → IsPlan t ps → serves j ps ≤ n → IsPlan (with_wanted t j n) ps
to_wanted t j n ps l plan gives = record {
  allowed = allowed_moves t (with_wanted t j n) refl (orders_of_wanted t j n) (λ k o. refl) ps plan.allowed;
  once = plan.once;
  within = λ k m. elim (cases_Bool (k == j)) [
    | inl e ↦
        let is : k ≡ j = grind (arith, nat_tests, e) in
        let served : serves k ps ≡ serves j ps = ap (λ (o : ℕ). serves o ps) is in
        let lack : lack_at (with_wanted t j n) k ≡ n = ap (lack_at (with_wanted t j n)) is ∙ get_or-set_same t.lacks j n 0 l in
        omega (arith, served, lack, gives)
    | inr e ↦
        let others : k ≢ j = grind (arith, nat_tests, e) in
        let lack : lack_at (with_wanted t j n) k ≡ lack_at t k = get_or-set_other t.lacks j k n 0 others in
        let within = plan.within k (omega (arith, m, orders_of_wanted t j n)) in
        omega (arith, lack, within)
  ];
}

pub from_wanted : (t : Table) (j n : ℕ) (ps : List (ℕ × ℕ)) → j < order_count t → IsPlan (with_wanted t j n) ps → n ≤ lack_at t j → IsPlan t ps
from_wanted t j n ps l plan less = record {
  allowed = allowed_moves (with_wanted t j n) t refl (sym (orders_of_wanted t j n)) (λ k o. refl) ps plan.allowed;
  once = plan.once;
  within = λ k m.
      let within = plan.within k (omega (arith, m, orders_of_wanted t j n)) in
      elim (cases_Bool (k == j)) [
        | inl e ↦
            let is : k ≡ j = grind (arith, nat_tests, e) in
            let lack : lack_at (with_wanted t j n) k ≡ n = ap (lack_at (with_wanted t j n)) is ∙ get_or-set_same t.lacks j n 0 l in
            let own : lack_at t k ≡ lack_at t j = ap (lack_at t) is in
            omega (arith, within, lack, own, less)
        | inr e ↦
            let others : k ≢ j = grind (arith, nat_tests, e) in
            let lack : lack_at (with_wanted t j n) k ≡ lack_at t k = get_or-set_other t.lacks j k n 0 others in
            omega (arith, lack, within)
      ];
}

-- the costs differ as those of the wagons do that the order misses
pub wanted_cost : (t : Table) (j n : ℕ) (ps : List (ℕ × ℕ)) → j < order_count t → length t.penalties ≡ order_count t
    → cost_of (with_wanted t j n) ps + penalty_at t j * (lack_at t j - serves j ps) ≡ cost_of t ps + max_cost * (n - serves j ps)
wanted_cost t j n ps l count =
    let s = with_wanted t j n in
    let orders : sum_below (order_count s) (missed_cost s ps) ≡ sum_below (order_count t) (missed_cost s ps) = ap (λ (m : ℕ). sum_below m (missed_cost s ps)) (orders_of_wanted t j n) in
    let change = sum_below-change (order_count t) j (missed_cost s ps) (missed_cost t ps) l
    (λ k m other.
    let lack : lack_at s k ≡ lack_at t k = get_or-set_other t.lacks j k n 0 other in
    let price : penalty_at s k ≡ penalty_at t k = get_or-set_other t.penalties j k max_cost 0 other in
    ap (λ (q : ℕ). q * (lack_at s k - serves k ps)) price ∙ ap (λ (m : ℕ). penalty_at t k * (m - serves k ps)) lack) in
    let lack : lack_at s j ≡ n = get_or-set_same t.lacks j n 0 l in
    let price : penalty_at s j ≡ max_cost = get_or-set_same t.penalties j max_cost 0 (omega (arith, l, count)) in
    let here : missed_cost s ps j ≡ max_cost * (n - serves j ps) = ap (λ (q : ℕ). q * (lack_at s j - serves j ps)) price ∙ ap (λ (m : ℕ). max_cost * (m - serves j ps)) lack in
    omega (arith, orders, change, here)

-- ---- prices

-- what a plan of the table costs, at least, by prices of the changed one
pub wanted_pays : (t : Table) (j n : ℕ) (pairs : List (ℕ × ℕ)) (u v : List ℕ) → j < order_count t → length t.penalties ≡ order_count t → IsCertificate (with_wanted t j n) pairs u v
    → (ps : List (ℕ × ℕ)) → IsPlan t ps
    → cost_of (with_wanted t j n) pairs + serves j ps * slice_index v j + penalty_at t j * (lack_at t j - serves j ps) ≤ cost_of t ps + n * slice_index v j
wanted_pays t j n pairs u v l count c ps plan =
    let k = serves j ps in
    let s = with_wanted t j n in
    let r = with_wanted t j k in
    let orders = orders_of_wanted t j n in
    let same = orders_of_wanted t j k in
    let least = weak_duality r u v c.wagons
    (λ i o cost a b is. c.no_gap i o cost a (omega (arith, b, orders, same)) is)
    (λ o b. c.below_penalty o (omega (arith, b, orders, same))) ps (to_wanted t j k ps l plan (omega arith)) in
    let paid : sum_below (order_count r) (λ o. lack_at r o * slice_index v o) ≡ sum_below (order_count t) (λ o. lack_at r o * slice_index v o)
    = ap (λ (m : ℕ). sum_below m (λ o. lack_at r o * slice_index v o)) same in
    let owed : sum_below (order_count s) (λ o. lack_at s o * slice_index v o) ≡ sum_below (order_count t) (λ o. lack_at s o * slice_index v o)
    = ap (λ (m : ℕ). sum_below m (λ o. lack_at s o * slice_index v o)) orders in
    let change = sum_below-change (order_count t) j (λ o. lack_at r o * slice_index v o) (λ o. lack_at s o * slice_index v o) l
    (λ o b other. ap (λ (m : ℕ). m * slice_index v o) (get_or-set_other t.lacks j o k 0 other ∙ sym (get_or-set_other t.lacks j o n 0 other))) in
    let here : lack_at r j * slice_index v j ≡ k * slice_index v j = ap (λ (m : ℕ). m * slice_index v j) (get_or-set_same t.lacks j k 0 l) in
    let there : lack_at s j * slice_index v j ≡ n * slice_index v j = ap (λ (m : ℕ). m * slice_index v j) (get_or-set_same t.lacks j n 0 l) in
    let balance = c.balance in
    let cost = wanted_cost t j k ps l count in
    let none : k - k ≡ 0 = omega arith in
    let nothing : max_cost * (k - k) ≡ 0 = ap (λ (m : ℕ). max_cost * m) none in
    omega (arith, least, paid, owed, change, here, there, balance, cost, nothing)
