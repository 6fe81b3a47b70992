-- How the index from which a wagon was reached is told by what is read there.
use Rattle.std.proofs.Common.{◌≡◌, ◌+◌, ◌*◌, ◌<◌, ℕ, length, get_or, sym, ◌∙◌, ap, arith, subst}
use Rattle.std.proofs.lemmas.Nat.{mul-add-lt}
use Rattle.std.proofs.lemmas.List.{get_or_read}
use Rattle.cost_table.specs.Table.{cost_at, wagon_count, order_count}
use Rattle.assignment.specs.declared.search.Search.{Search}
use Rattle.assignment.specs.declared.state.State.{State}
use Rattle.assignment.specs.inner.Costs.{cell_cost}
use Rattle.assignment.specs.inner.Groups.{group_table}
use Rattle.assignment.specs.inner.State.{kept}
use Rattle.assignment.specs.inner.Search.{IsSearchOf, IsReachedFrom, settled_at, distance_at, reach}
use Rattle.assignment.proofs.Grouping.{group_cells, group_count, group_price}

-- an order that is read at an index is the one settled there, and the table has it
pub record IsSettled (state : State) (f : Search) (index order : ℕ) : Type 0 where
  pub is : order ≡ settled_at f index
  pub within : order < order_count state.cells.now

pub settled_of : (state : State) (f : Search) (index order : ℕ) → IsSearchOf state f → index < length f.orders.items → order ≡ get_or f.orders.items index order → IsSettled state f index order
settled_of state f index order h lp read =
    let is : order ≡ settled_at f index = get_or_read f.orders.items index order lp read 0 in
    record { is = is; within = omega (arith, is, h.settled index lp) }

cost_within : (state : State) (f : Search) (group order groups : ℕ) → IsSearchOf state f → group < length state.groups.first.items → order < order_count state.cells.now → groups ≡ length state.groups.first.items → order * groups + group < length state.costs.items
cost_within state f group order groups h lg lo count =
    let n = length state.groups.first.items in
    let all = h.costs.count in
    let rows = group_count state.cells.now state.groups.first.items in
    let whole : length state.costs.items ≡ order_count state.cells.now * n = all ∙ ap (λ y. order_count state.cells.now * y) rows in
    let last = mul-add-lt order n group (order_count state.cells.now) lo lg in
    let swap : order_count state.cells.now * n ≡ n * order_count state.cells.now = grind arith in
    subst (λ (w : ℕ). order * w + group < length state.costs.items) (sym count) (omega (arith, whole, last, swap))

-- two sums agree just where a wagon was reached from an index
pub record AgreeWhereReached (state : State) (f : Search) (far wagon index far_read price distance cost wagon_price : ℕ) : Type 0 where
  pub reached : far_read + price ≡ distance + cost + wagon_price → IsReachedFrom (kept state) f far wagon index
  pub agree : IsReachedFrom (kept state) f far wagon index → far_read + price ≡ distance + cost + wagon_price

-- so do those of what is read of a wagon, and of the order that was settled at an index
agree_where_reached : (state : State) (f : Search) (far wagon group index groups order cost distance price far_read wagon_price : ℕ) → IsSearchOf state f → wagon < wagon_count state.cells.now → index < length f.orders.items → groups ≡ length state.groups.first.items → group ≡ get_or state.groups.of.items wagon 0
    → order ≡ get_or f.orders.items index order → cost ≡ get_or state.costs.items (order * groups + group) cost → distance ≡ get_or f.order_distance.items order distance → price ≡ get_or state.v.items order price
    → far_read ≡ far → wagon_price ≡ get_or state.u.items group wagon_price → AgreeWhereReached state f far wagon index far_read price distance cost wagon_price
agree_where_reached state f far wagon group index groups order cost distance price far_read wagon_price h lw lp count eg eo ec ed ep el eu =
    let settled = settled_of state f index order h lp eo in
    let lo = settled.within in
    let orders = h.orders in
    let rooms = h.room.distances in
    let first = state.groups.first.items in
    let n = length first in
    let grouped = h.groups.grouped in
    let prices = h.group_prices in
    let lg : group < n = (let g = h.groups.group wagon lw in omega (arith, g, eg)) in
    let cells : cost_at (group_table state.cells.now first) group order ≡ cost_at state.cells.now wagon order = ap (λ g. cost_at (group_table state.cells.now first) g order) eg ∙ group_cells state.cells.now state.groups wagon order h.groups lw in
    let rows = group_count state.cells.now first in
    let c : cost ≡ cell_cost (cost_at state.cells.now wagon order) =
    get_or_read state.costs.items (order * groups + group) cost (cost_within state f group order groups h lg lo count) ec 0
    ∙ ap (λ w. get_or state.costs.items (order * w + group) 0) (count ∙ sym rows) ∙ h.costs.each group order (omega (arith, lg, rows)) lo ∙ ap cell_cost cells in
    let d : distance ≡ distance_at f order = get_or_read f.order_distance.items order distance (omega (arith, lo, rooms)) ed 0 in
    let p : price ≡ get_or state.v.items order 0 = get_or_read state.v.items order price (omega (arith, lo, orders)) ep 0 in
    let u : wagon_price ≡ get_or (kept state).u wagon 0 = get_or_read state.u.items group wagon_price (omega (arith, lg, prices)) eu 0 ∙ ap (λ g. get_or state.u.items g 0) eg ∙ sym (group_price state.groups.of.items state.u.items wagon (omega (arith, lw, grouped))) in
    record {
      reached = λ same.
          let here : far + get_or state.v.items order 0 ≡ reach (kept state) f wagon order = omega (arith, same, c, p, d, el, u) in
          record { within = lp; exact = subst (λ (k : ℕ). far + get_or state.v.items k 0 ≡ reach (kept state) f wagon k) settled.is here };
      agree = λ from.
          let here : far + get_or state.v.items order 0 ≡ reach (kept state) f wagon order = subst (λ (k : ℕ). far + get_or state.v.items k 0 ≡ reach (kept state) f wagon k) (sym settled.is) from.exact in
          omega (arith, here, c, p, d, el, u);
    }

-- what is read of the wagon that led to the order at an index
record ReadOfVia (state : State) (f : Search) (end wagon group far : ℕ) : Type 0 where
  is : wagon ≡ get_or f.via.items end 0
  within : wagon < wagon_count state.cells.now
  group_is : group ≡ get_or state.groups.of.items wagon 0
  group_within : group < length state.groups.first.items
  far_is : far ≡ distance_at f (settled_at f end)

read_of_via : (state : State) (f : Search) (end wagon order group far : ℕ) → IsSearchOf state f → end < length f.orders.items → get_or f.via.items end 0 < wagon_count state.cells.now → wagon ≡ get_or f.via.items end wagon → group ≡ get_or state.groups.of.items wagon group → order ≡ get_or f.orders.items end order → far ≡ get_or f.order_distance.items order far → ReadOfVia state f end wagon group far
read_of_via state f end wagon order group far h l lw ew eg eo ef =
    let vias = h.vias in
    let grouped = h.groups.grouped in
    let is : wagon ≡ get_or f.via.items end 0 = get_or_read f.via.items end wagon (omega (arith, l, vias)) ew 0 in
    let within : wagon < wagon_count state.cells.now = omega (arith, is, lw) in
    let g : group ≡ get_or state.groups.of.items wagon 0 = get_or_read state.groups.of.items wagon group (omega (arith, within, grouped)) eg 0 in
    let lg = h.groups.group wagon within in
    let settled = settled_of state f end order h l eo in
    let lo = settled.within in
    let rooms = h.room.distances in
    record {
      is = is;
      within = within;
      group_is = g;
      group_within = omega (arith, g, lg);
      far_is = get_or_read f.order_distance.items order far (omega (arith, lo, rooms)) ef 0 ∙ ap (distance_at f) settled.is;
    }

-- the cost that is read for the order at an index is within those of the table
pub cost_read : (state : State) (f : Search) (end index wagon end_order far group groups order : ℕ) → IsSearchOf state f → end < length f.orders.items → get_or f.via.items end 0 < wagon_count state.cells.now → index < length f.orders.items → wagon ≡ get_or f.via.items end wagon → group ≡ get_or state.groups.of.items wagon group → end_order ≡ get_or f.orders.items end end_order → far ≡ get_or f.order_distance.items end_order far
    → groups ≡ length state.groups.first.items → order ≡ get_or f.orders.items index order → order * groups + group < length state.costs.items
cost_read state f end index wagon end_order far group groups order h le lw lp ew eg eo ef count read = cost_within state f group order groups h (read_of_via state f end wagon end_order group far h le lw ew eg eo ef).group_within (settled_of state f index order h lp read).within count

-- the sums of what is read agree just where the wagon that led to the order at one index was reached from the other
pub sums_read : (state : State) (f : Search) (end index wagon end_order far group groups order cost distance price wagon_price : ℕ) → IsSearchOf state f → end < length f.orders.items → get_or f.via.items end 0 < wagon_count state.cells.now → index < length f.orders.items → wagon ≡ get_or f.via.items end wagon → group ≡ get_or state.groups.of.items wagon group → end_order ≡ get_or f.orders.items end end_order → far ≡ get_or f.order_distance.items end_order far
    → groups ≡ length state.groups.first.items → order ≡ get_or f.orders.items index order → cost ≡ get_or state.costs.items (order * groups + group) cost → distance ≡ get_or f.order_distance.items order distance → price ≡ get_or state.v.items order price → wagon_price ≡ get_or state.u.items group wagon_price
    → AgreeWhereReached state f (distance_at f (settled_at f end)) (get_or f.via.items end 0) index far price distance cost wagon_price
sums_read state f end index wagon end_order far group groups order cost distance price wagon_price h le lw lp ew eg eo ef count read ec ed ep eu =
    let via = read_of_via state f end wagon end_order group far h le lw ew eg eo ef in
    let sums = agree_where_reached state f (distance_at f (settled_at f end)) wagon group index groups order cost distance price far wagon_price h via.within lp count via.group_is read ec ed ep via.far_is eu in
    subst (λ (w : ℕ). AgreeWhereReached state f (distance_at f (settled_at f end)) w index far price distance cost wagon_price) via.is sums
