-- The limits of what is read of a group.
use Rattle.std.proofs.Common.{◌≡◌, ◌+◌, ◌<◌, ◌≤◌, ℕ, length, get_or, sym, ◌∙◌, ap, arith}
use Rattle.cost_table.specs.Table.{cost_at, wagon_count, order_count}
use Rattle.assignment.specs.declared.state.State.{State}
use Rattle.assignment.specs.inner.Costs.{cell_cost}
use Rattle.assignment.specs.inner.Groups.{group_table}
use Rattle.assignment.specs.inner.State.{IsState, kept}
use Rattle.assignment.proofs.Grouping.{group_cells, group_price}
use Rattle.assignment.proofs.Limits.{cell_gap, number_limit, wagon_limit}

-- what is read of a group is what its first wagon has
pub record IsOfWagon (state : State) (g j : ℕ) : Type 0 where
  pub wagon : ℕ
  pub within : wagon < wagon_count state.cells.now
  pub group : get_or state.groups.of.items wagon 0 ≡ g
  pub cost : cell_cost (cost_at (group_table state.cells.now state.groups.first.items) g j) ≡ cell_cost (cost_at state.cells.now wagon j)
  pub price : get_or state.u.items g 0 ≡ get_or (kept state).u wagon 0

pub of_wagon : (state : State) (g j : ℕ) → IsState state → g < length state.groups.first.items → IsOfWagon state g j
of_wagon state g j h l =
    let first = state.groups.first.items in
    let of = state.groups.of.items in
    let w = get_or first g 0 in
    let lw = h.groups.first_within g l in
    let grouped = h.groups.grouped in
    let group : get_or of w 0 ≡ g = h.groups.first_of g l in
    record {
      wagon = w;
      within = lw;
      group = group;
      cost = ap (λ y. cell_cost (cost_at (group_table state.cells.now first) y j)) (sym group) ∙ ap cell_cost (group_cells state.cells.now state.groups w j h.groups lw);
      price = ap (λ y. get_or state.u.items y 0) (sym group) ∙ sym (group_price of state.u.items w (omega (arith, lw, grouped)));
    }

-- the limits of a group's price, and of its number for an order
pub record IsLimited (state : State) (g j : ℕ) : Type 0 where
  pub price : get_or state.u.items g 0 ≤ 1000000000
  pub cost : cell_cost (cost_at (group_table state.cells.now state.groups.first.items) g j) ≤ 2000000000

pub group_limit : (state : State) (g j : ℕ) → IsState state → g < length state.groups.first.items → IsLimited state g j
group_limit state g j h l =
    let one = of_wagon state g j h l in
    let price = wagon_limit (kept state) one.wagon h.keeps in
    let cost = number_limit state.cells.now one.wagon j h.keeps.table in
    let u = one.price in
    let c = one.cost in
    record { price = omega (arith, price, u); cost = omega (arith, cost, c) }

pub group_gap : (state : State) (g j : ℕ) → IsState state → g < length state.groups.first.items → j < order_count state.cells.now → get_or state.v.items j 0 ≤ cell_cost (cost_at (group_table state.cells.now state.groups.first.items) g j) + get_or state.u.items g 0
group_gap state g j h l lj =
    let one = of_wagon state g j h l in
    let gap = cell_gap (kept state) one.wagon j h.keeps lj in
    let u = one.price in
    let c = one.cost in
    omega (arith, gap, u, c)
