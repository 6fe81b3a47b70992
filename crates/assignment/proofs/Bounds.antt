-- The bounds of what wagons without an order cost, and the ends of paths that they tell.
use Rattle.std.specs.Prelude.{IfSome, IfNone}
use Rattle.std.proofs.Common.{◌≡◌, ◌≢◌, ◌+◌, ◌-◌, ◌<◌, ◌≤◌, ℕ, List, Option, Some, None, Vec, length, get_or, set, min, refl, sym, ◌∙◌, ap, arith, inl, inr, subst}
use Rattle.std.specs.declared.alloc.Global.{Global}
use Rattle.std.proofs.lemmas.Bool.{cases_eq, cases_lt}
use Rattle.std.proofs.lemmas.List.{get_or_read}
use Rattle.cost_table.specs.Table.{cost_at, penalty_at, wagon_count, order_count}
use Rattle.assignment.specs.declared.state.State.{State}
use Rattle.assignment.specs.inner.Costs.{IsColumn, cell_cost}
use Rattle.assignment.specs.inner.Groups.{group_table}
use Rattle.assignment.specs.inner.Passes.{HasIdle, IsFoundIdle, IsLeastIdle}
use Rattle.assignment.specs.inner.State.{AreBounds, IsEndAt, IsEndFound, IsHead, IsIdleAt, IsIdleGroup, IsKept, IsLeastCost, IsState, Kept, kept, orders_of}
use Rattle.assignment.proofs.Grouping.{group_cells, group_count}
use Rattle.assignment.proofs.Idle.{first_idle}
use Rattle.assignment.proofs.Limits.{cell_gap, penalty_limit}
use Rattle.assignment.proofs.Writes.{same_at, other_at, written_length}

-- the first wagon of a group that has no order
pub record IsFirstOf (state : State) (j cost g i : ℕ) : Type 0 where
  pub idle_at : IsIdleAt (kept state) j cost i
  pub head : get_or state.idle.items (get_or state.groups.of.items i 0) 0 ≡ i

pub first_of : (state : State) (j cost g i : ℕ) → IsState state → IsIdleGroup state j cost g → i ≡ get_or state.idle.items g 0 → IsFirstOf state j cost g i
first_of state j cost g i h at e =
    let t = state.cells.now in
    let of = state.groups.of.items in
    let first = state.groups.first.items in
    let w = get_or state.idle.items g 0 in
    let there = h.idle.within g at.within at.idle in
    let grouped = h.groups.grouped in
    let one = first_idle of (length first) (orders_of state.order_of.items) state.idle.items g h.idle at.within there in
    let lw : w < wagon_count t = omega (arith, there, grouped) in
    let whole : IsFirstOf state j cost g w = record {
      idle_at = record {
        within = lw;
        none = one.none;
        is = ap cell_cost (sym (group_cells t state.groups w j h.groups lw) ∙ ap (λ y. cost_at (group_table t first) y j) one.group) ∙ at.is;
      };
      head = ap (λ y. get_or state.idle.items y 0) one.group;
    } in
    subst (IsFirstOf state j cost g) (sym e) whole

pub group_found : (state : State) (j cost g : ℕ) (column : List ℕ) → IsColumn (group_table state.cells.now state.groups.first.items) j column → IsFoundIdle column state.idle.items cost (length column) g → IsIdleGroup state j cost g
group_found state j cost g column c found =
    let rows = group_count state.cells.now state.groups.first.items in
    let count = c.count in
    let within = found.within in
    let l : g < length state.groups.first.items = omega (arith, within, rows, count) in
    record { within = l; idle = found.has; is = sym (c.each g (omega (arith, l, rows))) ∙ found.is }

pub least_cost_is : (state : State) (j cost : ℕ) (column : List ℕ) → IsColumn (group_table state.cells.now state.groups.first.items) j column → IsLeastIdle column state.idle.items cost (length column) → IsLeastCost state j cost
least_cost_is state j cost column c least =
    let rows = group_count state.cells.now state.groups.first.items in
    let count = c.count in
    record {
      below = λ g l idle. let m = least.below g (omega (arith, l, rows, count)) idle in let e = c.each g (omega (arith, l, rows)) in omega (arith, m, e);
      attained = λ near. let at = least.attained near in record { group = at.group; is = group_found state j cost at.group column c at.is };
    }

pub none_found : (state : State) (j cost : ℕ) (column : List ℕ) → IsColumn (group_table state.cells.now state.groups.first.items) j column → IsLeastCost state j cost → ((g : ℕ) → g < length column → get_or column g 0 ≡ cost → HasIdle state.idle.items g → ⊥) → 1000000000 < cost
none_found state j cost column c least none = elim (cases_lt cost 4294967295) [
  | inl near ↦ absurd (
      let at = least.attained near in
      let rows = group_count state.cells.now state.groups.first.items in
      let count = c.count in
      let within = at.is.within in
      none at.group (omega (arith, within, rows, count)) (c.each at.group (omega (arith, within, rows)) ∙ at.is.is) at.is.idle)
  | inr far ↦ omega (arith, far)
]

-- a bound that is found again is one
pub bounds_renewed : (state : State) (j cost : ℕ) (bound : List ℕ) → IsState state → j < order_count state.cells.now → IsLeastCost state j cost → bound ≡ set state.bound.items j cost → AreBounds (kept state) bound
bounds_renewed state j cost bound h lj least e =
    let count = h.bounds.count in
    let grouped = h.groups.grouped in
    let few = h.keeps.table.wagons in
    record {
      count = written_length state.bound.items bound j cost e ∙ count;
      least = λ i k li lk none. elim (cases_eq k j) [
        | inl same ↦
            let g = get_or state.groups.of.items i 0 in
            let at : get_or bound k 0 ≡ cost = ap (λ y. get_or bound y 0) same ∙ same_at state.bound.items bound j cost 0 (omega (arith, lj, count)) e in
            let head = (h.idle.first i (omega (arith, li, grouped))).0 none in
            let m = least.below g (h.groups.group i li) (λ no. omega (arith, no, head, li, few)) in
            let cells : cell_cost (cost_at (group_table state.cells.now state.groups.first.items) g j) ≡ cell_cost (cost_at state.cells.now i k) = ap cell_cost (group_cells state.cells.now state.groups i j h.groups li) ∙ ap (λ y. cell_cost (cost_at state.cells.now i y)) (sym same) in
            omega (arith, at, m, cells)
        | inr other ↦ let at = other_at state.bound.items bound j cost 0 k e other in let m = h.bounds.least i k li lk none in omega (arith, at, m)
      ];
    }

pub state_renewed : (state : State) (j cost : ℕ) (bound nearest : Vec ℕ Global) → IsState state → j < order_count state.cells.now → IsLeastCost state j cost → bound.items ≡ set state.bound.items j cost → length nearest.items ≡ length state.nearest.items → IsState (record state { bound = bound; nearest = nearest })
state_renewed state j cost bound nearest h lj least e hints =
    let renewed = bounds_renewed state j cost bound.items h lj least e in
    record {
      keeps = h.keeps;
      groups = h.groups;
      group_prices = h.group_prices;
      costs = h.costs;
      idle = h.idle;
      bounds = renewed;
      hints = hints ∙ h.hints;
      served = h.served;
    }

-- an end that isn't nearer than the nearest one
pub end_near : (state : State) (j distance best near index : ℕ) → IsState state → j < order_count state.cells.now → near ≡ distance + (min (get_or state.bound.items j 0) (penalty_at state.cells.now j) - get_or state.v.items j 0) → best ≤ near → IsEndFound (kept state) j distance best (record { distance = near; index = index; wagon = None })
end_near state j distance best near index h lj e far =
    let s = kept state in
    let price = h.keeps.priced.below_penalty j lj in
    record {
      beyond = omega (arith, e);
      refusal = omega (arith, e, price);
      wagons = λ i li none. let bound = h.bounds.least i j li lj none in let gap = cell_gap s i j h.keeps lj in omega (arith, e, bound, gap);
      is = λ less. absurd (omega (arith, less, far));
    }

end_wagon : (s : Kept) (j distance near bound : ℕ) (wagon : Option ℕ) → IsKept s → j < order_count s.table → IfSome wagon (IsIdleAt s j bound) → IfNone wagon (1000000000 < bound) → near ≡ distance + (min bound (penalty_at s.table j) - get_or s.v j 0) → bound ≤ penalty_at s.table j → IsEndAt s j distance near wagon
end_wagon s j distance near bound None k lj some none e low = absurd (let p = penalty_limit s.table j k.table in omega (arith, none, low, p))
end_wagon s j distance near bound (Some i) k lj some none e low =
    let free = k.held.idle i some.none in
    let gap = cell_gap s i j k lj in
    let is = some.is in
    (some.within, some.none, omega (arith, e, low, free, gap, is))

-- an end that is nearer, once the bound is that of a wagon without an order
pub end_found : (state state' : State) (j distance best near index : ℕ) (wagon chosen : Option ℕ) → IsState state' → state' ≡ record state { bound = state'.bound; nearest = state'.nearest } → j < order_count state.cells.now → IfSome wagon (IsIdleAt (kept state) j (get_or state'.bound.items j 0)) → IfNone wagon (1000000000 < get_or state'.bound.items j 0) → near ≡ distance + (min (get_or state'.bound.items j 0) (penalty_at state'.cells.now j) - get_or state'.v.items j 0) → (get_or state'.bound.items j 0 ≤ penalty_at state.cells.now j → chosen ≡ wagon) → (penalty_at state.cells.now j < get_or state'.bound.items j 0 → chosen ≡ None) → IsEndFound (kept state) j distance best (record { distance = near; index = index; wagon = chosen })
end_found state state' j distance best near index wagon chosen h' same lj some none e at_most above =
    let s = kept state in
    let sk : kept state' ≡ s = ap kept same in
    let table : state'.cells.now ≡ state.cells.now = ap (λ (x : State). x.cells.now) same in
    let prices : state'.v ≡ state.v = ap (λ (x : State). x.v) same in
    let k : IsKept s = subst IsKept sk h'.keeps in
    let b = get_or state'.bound.items j 0 in
    let bounds : AreBounds s state'.bound.items = subst (λ (x : Kept). AreBounds x state'.bound.items) sk h'.bounds in
    let near_is : near ≡ distance + (min b (penalty_at s.table j) - get_or s.v j 0) = e ∙ ap (λ (x : State). distance + (min b (penalty_at x.cells.now j) - get_or x.v.items j 0)) same in
    let price = k.priced.below_penalty j lj in
    record {
      beyond = omega (arith, near_is);
      refusal = omega (arith, near_is, price);
      wagons = λ i li no. let bound = bounds.least i j li lj no in let gap = cell_gap s i j k lj in omega (arith, near_is, bound, gap);
      is = λ less. elim (cases_lt (penalty_at s.table j) b) [
        | inl over ↦ subst (IsEndAt s j distance near) (sym (above over)) (omega (arith, near_is, price, over))
        | inr low ↦ subst (IsEndAt s j distance near) (sym (at_most low)) (end_wagon s j distance near b wagon k lj some none near_is low)
      ];
    }

-- the wagon that is chosen is the first of its group
pub chosen_head : (state : State) (bound penalty : ℕ) (wagon chosen : Option ℕ) → IsHead state wagon → (bound ≤ penalty → chosen ≡ wagon) → (penalty < bound → chosen ≡ None) → IsHead state chosen
chosen_head state bound penalty wagon chosen head at_most above = elim (cases_lt penalty bound) [
  | inl over ↦ subst (IsHead state) (sym (above over)) tt
  | inr low ↦ subst (IsHead state) (sym (at_most low)) head
]

-- so is the wagon that is read there, where its group costs what the bound says
pub first_read : (state : State) (j bound g wagon : ℕ) (column : List ℕ) → IsState state → j < order_count state.cells.now → bound ≡ get_or state.bound.items j bound → g < length state.idle.items → wagon ≡ get_or state.idle.items g wagon → wagon ≢ 4294967295 → IsColumn (group_table state.cells.now state.groups.first.items) j column → get_or column g 0 ≡ bound → IsFirstOf state j (get_or state.bound.items j 0) g wagon
first_read state j bound g wagon column h lj bound_read l read some c is =
    let at : wagon ≡ get_or state.idle.items g 0 = get_or_read state.idle.items g wagon l read 0 in
    let bounds = h.bounds.count in
    let cost : bound ≡ get_or state.bound.items j 0 = get_or_read state.bound.items j bound (omega (arith, lj, bounds)) bound_read 0 in
    let count = h.idle.count in
    let rows = group_count state.cells.now state.groups.first.items in
    let group : IsIdleGroup state j (get_or state.bound.items j 0) g = record { within = omega (arith, l, count); idle = λ no. some (at ∙ no); is = sym (c.each g (omega (arith, l, count, rows))) ∙ is ∙ cost } in
    first_of state j (get_or state.bound.items j 0) g wagon h group at

-- and the bound that is found again is what that wagon costs
pub idle_renewed : (state : State) (j cost wagon : ℕ) → IsState state → j < order_count state.cells.now → IsIdleAt (kept state) j cost wagon → IsIdleAt (kept state) j (get_or (set state.bound.items j cost) j 0) wagon
idle_renewed state j cost wagon h lj at =
    let count = h.bounds.count in
    let same : get_or (set state.bound.items j cost) j 0 ≡ cost = same_at state.bound.items (set state.bound.items j cost) j cost 0 (omega (arith, lj, count)) refl in
    subst (λ (x : ℕ). IsIdleAt (kept state) j x wagon) (sym same) at
