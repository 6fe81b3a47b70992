use Rattle.std.proofs.Common.{◌≡◌, ◌+◌, ◌<◌, ◌≤◌, ℕ, Option, Some, None, length, get_or, refl, sym, arith, inl, inr}
use Rattle.std.proofs.lemmas.Bool.{cases_lt}
use Rattle.std.proofs.lemmas.List.{get_or_past}
use Rattle.std.proofs.lemmas.List.Elements.{All-get_or}
use Rattle.cost_table.specs.Table.{Table, cost_at, penalty_at, wagon_count, order_count}
use Rattle.cost_table.specs.TableLimits.{IsTable}
use Rattle.cost_table.proofs.TableLemmas.{look_up_within}
use Rattle.assignment.specs.inner.Costs.{cell_cost}
use Rattle.assignment.specs.inner.State.{Kept, IsKept, order_at}

-- a cell is one of the table's wagons, of its orders, and within the limit
pub cell_wagon : (t : Table) (i j c : ℕ) → IsTable t → cost_at t i j ≡ Some c → i < wagon_count t
cell_wagon t i j c legal is = (look_up_within t i j (Some c) legal (sym is)).0.0

pub cell_order : (t : Table) (i j c : ℕ) → IsTable t → cost_at t i j ≡ Some c → j < order_count t
cell_order t i j c legal is = (look_up_within t i j (Some c) legal (sym is)).0.1

pub cell_limit : (t : Table) (i j c : ℕ) → IsTable t → cost_at t i j ≡ Some c → c ≤ 1000000000
cell_limit t i j c legal is = (look_up_within t i j (Some c) legal (sym is)).1

pub penalty_limit : (t : Table) (j : ℕ) → IsTable t → penalty_at t j ≤ 1000000000
penalty_limit t j legal = elim (cases_lt j (length t.penalties)) [
  | inl l ↦ All-get_or (λ (p : ℕ). p ≤ 1000000000) t.penalties j 0 l legal.penalties
  | inr past ↦ let e : penalty_at t j ≡ 0 = get_or_past t.penalties j 0 past in omega arith
]

pub order_limit : (s : Kept) (j : ℕ) → IsKept s → j < order_count s.table → get_or s.v j 0 ≤ 1000000000
order_limit s j h l =
    let below = h.priced.below_penalty j l in
    let limit = penalty_limit s.table j h.table in
    omega arith

-- the order that a wagon has is one of the table's
pub held_order : (s : Kept) (i k : ℕ) → IsKept s → order_at s.order_of i ≡ Some k → k < order_count s.table
held_order s i k h is = let tight = h.held.tight i k is in cell_order s.table i k tight.cost h.table tight.allowed

wagon_limit_at : (s : Kept) (i : ℕ) (o : Option ℕ) → IsKept s → order_at s.order_of i ≡ o → get_or s.u i 0 ≤ 1000000000
wagon_limit_at s i None h is = let e = h.held.idle i is in omega arith
wagon_limit_at s i (Some k) h is =
    let e = (h.held.tight i k is).tight in
    let limit = order_limit s k h (held_order s i k h is) in
    omega arith

pub wagon_limit : (s : Kept) (i : ℕ) → IsKept s → get_or s.u i 0 ≤ 1000000000
wagon_limit s i h = wagon_limit_at s i (order_at s.order_of i) h refl

gap_at : (s : Kept) (i k : ℕ) (o : Option ℕ) → IsKept s → k < order_count s.table → cost_at s.table i k ≡ o → get_or s.v k 0 ≤ cell_cost o + get_or s.u i 0
gap_at s i k None h l is = let limit = order_limit s k h l in omega arith
gap_at s i k (Some c) h l is = h.priced.no_gap i k c is

-- no order's price passes the number that stands for a cell and the wagon's price
pub cell_gap : (s : Kept) (i k : ℕ) → IsKept s → k < order_count s.table → get_or s.v k 0 ≤ cell_cost (cost_at s.table i k) + get_or s.u i 0
cell_gap s i k h l = gap_at s i k (cost_at s.table i k) h l refl

number_limit_at : (t : Table) (i k : ℕ) (o : Option ℕ) → IsTable t → cost_at t i k ≡ o → cell_cost o ≤ 2000000000
number_limit_at t i k None h is = omega arith
number_limit_at t i k (Some c) h is = let limit = cell_limit t i k c h is in omega arith

pub number_limit : (t : Table) (i k : ℕ) → IsTable t → cell_cost (cost_at t i k) ≤ 2000000000
number_limit t i k h = number_limit_at t i k (cost_at t i k) h refl
