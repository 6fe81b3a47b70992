-- The state before the first unit is taken in.
use Rattle.std.proofs.Common.{◌≡◌, ◌<◌, ◌≤◌, ℕ, List, Option, Some, None, length, get_or, refl, replicate, sym, ◌∙◌, ap, arith, inl, inr}
use Rattle.std.proofs.lemmas.Bool.{cases_lt}
use Rattle.std.proofs.lemmas.List.{get_or_past, length-map}
use Rattle.cost_table.specs.Table.{Table, cost_at, wagon_count, order_count}
use Rattle.cost_table.specs.TableLimits.{IsTable}
use Rattle.assignment.specs.declared.groups.Groups.{Groups}
use Rattle.assignment.specs.declared.state.State.{State}
use Rattle.assignment.specs.inner.Costs.{AreColumnsOf, ArePricesOf, cell_cost}
use Rattle.assignment.specs.inner.Groups.{AreGroups, group_in, group_table, prices_of}
use Rattle.assignment.specs.inner.State.{AreIdle, IsKept, IsState, kept, order_at, orders_of}
use Rattle.assignment.proofs.Counting.{served_begun}
use Rattle.assignment.proofs.FirstPrices.{all_same, kept_first, no_orders}
use Rattle.assignment.proofs.Grouping.{group_cells, group_count, group_price}
use Rattle.assignment.proofs.Limits.{penalty_limit}
use Rattle.assignment.proofs.Numbers.{orders_length}

-- prices that pass no cell of a group pass no cell of a wagon
wagon_prices : (t : Table) (groups : Groups) (v : List ℕ) → AreGroups t groups → ArePricesOf (group_table t groups.first.items) (cost_at (group_table t groups.first.items)) v → ArePricesOf t (cost_at t) v
wagon_prices t groups v h p = record {
  count = p.count;
  below_penalty = p.below_penalty;
  below_cells = λ i j c li lj is. let n = group_count t groups.first.items in let lg = h.group i li in p.below_cells (group_in groups i) j c (omega (arith, lg, n)) lj (group_cells t groups i j h li ∙ is);
}

unpriced : (groups u : List ℕ) (n i : ℕ) → u ≡ replicate n 0 → get_or (prices_of groups u) i 0 ≡ 0
unpriced groups u n i e = elim (cases_lt i (length groups)) [
  | inl l ↦ group_price groups u i l ∙ ap (λ x. get_or x (get_or groups i 0) 0) e ∙ all_same n (get_or groups i 0) 0
  | inr past ↦ get_or_past (prices_of groups u) i 0 (let long = length-map groups (λ g. get_or u g 0) in omega (arith, past, long))
]

below_cost : (t : Table) (v : List ℕ) (i j : ℕ) (o : Option ℕ) → IsTable t → ArePricesOf t (cost_at t) v → i < wagon_count t → j < order_count t → cost_at t i j ≡ o → get_or v j 0 ≤ cell_cost o
below_cost t v i j None legal p li lj is = let b = p.below_penalty j lj in let limit = penalty_limit t j legal in omega (arith, b, limit)
below_cost t v i j (Some c) legal p li lj is = p.below_cells i j c li lj is

-- no wagon has an order, so the first of each group has none
idle_first : (t : Table) (groups : Groups) (order_of : List (Option ℕ)) → AreGroups t groups → ((i : ℕ) → order_at order_of i ≡ None) → AreIdle groups.of.items (length groups.first.items) order_of groups.first.items
idle_first t groups order_of h none =
    let grouped = h.grouped in
    record {
      count = refl;
      first = λ i l. (λ is. h.first_least i (omega (arith, l, grouped)), λ le. none i);
      same = λ g lg l. h.first_of g lg;
      within = λ g lg some. let m = h.first_within g lg in omega (arith, m, grouped);
    }

-- what a state begins with
pub record IsFirst (state : State) : Type 0 where
  pub table : IsTable state.cells.now
  pub are_groups : AreGroups state.cells.now state.groups
  pub columns : AreColumnsOf (group_table state.cells.now state.groups.first.items) (cost_at (group_table state.cells.now state.groups.first.items)) state.costs.items state.v.items state.nearest.items
  pub u_is : state.u.items ≡ replicate (length state.groups.first.items) 0
  pub u_count : length state.u.items ≡ length state.groups.first.items
  pub bound_is : state.bound.items ≡ state.v.items
  pub idle_is : state.idle.items ≡ state.groups.first.items
  pub orders_is : state.order_of.items ≡ replicate (wagon_count state.cells.now) 4294967295
  pub orders_count : length state.order_of.items ≡ wagon_count state.cells.now
  pub served_is : (k : ℕ) → get_or state.served.items k 0 ≡ 0
  pub served_count : length state.served.items ≡ order_count state.cells.now

pub none_first : (state : State) (i : ℕ) → IsFirst state → order_at (orders_of state.order_of.items) i ≡ None
none_first state i h = ap (λ x. order_at (orders_of x) i) h.orders_is ∙ no_orders (wagon_count state.cells.now) i

pub first_state : (state : State) → IsFirst state → IsState state
first_state state h =
    let t = state.cells.now in
    let s = kept state in
    let of = state.groups.of.items in
    let none : (i : ℕ) → order_at s.order_of i ≡ None = λ i. none_first state i h in
    let prices = wagon_prices t state.groups state.v.items h.are_groups h.columns.prices in
    let keeps : IsKept s = kept_first s h.table (length-map of (λ g. get_or state.u.items g 0) ∙ h.are_groups.grouped) (orders_length state.order_of.items ∙ h.orders_count) (λ i. unpriced of state.u.items (length state.groups.first.items) i h.u_is) (λ i q is. let e = sym (none i) ∙ is in cc) prices in
    record {
      keeps = keeps;
      groups = h.are_groups;
      group_prices = h.u_count;
      costs = h.columns.costs;
      idle = rw h.idle_is (idle_first t state.groups s.order_of h.are_groups none);
      bounds = record {
        count = ap length h.bound_is ∙ prices.count;
        least = λ i j li lj no. let b = below_cost t state.v.items i j (cost_at t i j) h.table prices li lj refl in let e = ap (λ x. get_or x j 0) h.bound_is in omega (arith, b, e);
      };
      hints = h.columns.hints;
      served = served_begun (order_count t) s.order_of state.served.items h.served_count h.served_is none;
    }
