use Rattle.std.proofs.Common.{◌≡◌, ◌≢◌, ◌+◌, ◌<◌, ◌≤◌, ℕ, List, Option, Some, None, Vec, length, get_or, set, refl, sym, ◌∙◌, ap, arith, inl, inr, subst}
use Rattle.std.proofs.lemmas.Bool.{cases_eq}
use Rattle.std.proofs.lemmas.Bool.Decides.{nat_tests}
use Rattle.std.specs.declared.alloc.Global.{Global}
use Rattle.cost_table.specs.Table.{cost_at, order_count}
use Rattle.assignment.specs.declared.state.State.{State}
use Rattle.assignment.specs.inner.Costs.{cell_cost}
use Rattle.assignment.specs.inner.State.{Kept, IsKept, IsTight, IsAtHand, IsHead, IsIdleAt, IsState, AreCounted, AreServed, idle_after, kept, order_at, orders_of, served, more}
use Rattle.assignment.specs.inner.Path.{one_if}
use Rattle.assignment.proofs.Writes.{same_at, other_at, written_length}
use Rattle.assignment.proofs.Limits.{order_limit}
use Rattle.assignment.proofs.HandOn.{served-set, some_same}
use Rattle.assignment.proofs.Unit.{more-one}
use Rattle.assignment.specs.inner.Taken.{HasTaken}
use Rattle.assignment.proofs.Idle.{idle_taken}
use Rattle.assignment.proofs.Numbers.{orders_set}
use Rattle.assignment.proofs.Raised.{Cell, cell, cheap}

tight_idle : (s : Kept) (i j : ℕ) → IsKept s → order_at s.order_of i ≡ None → Cell (cost_at s.table i j) → cell_cost (cost_at s.table i j) ≤ get_or s.v j 0 → IsTight s i j
tight_idle s i j keeps none (cell c is) low =
    let u = keeps.held.idle i none in
    let gap = keeps.priced.no_gap i j c is in
    let cost : cell_cost (cost_at s.table i j) ≡ c = ap cell_cost is in
    record { cost = c; allowed = is; tight = omega (arith, u, gap, cost, low) }

-- a wagon without an order that costs an order no more than its price is at hand
pub hand_at_bound : (s : Kept) (i j bound : ℕ) → IsKept s → j < order_count s.table → IsIdleAt s j bound i → bound ≤ get_or s.v j 0 → IsAtHand s j i
hand_at_bound s i j bound keeps l at low =
    let limit = order_limit s j keeps l in
    let is = at.is in
    record {
      within = at.within;
      none = at.none;
      tight = tight_idle s i j keeps at.none (cheap (cost_at s.table i j) (omega (arith, is, low, limit))) (omega (arith, is, low));
    }

-- the wagons' orders once a wagon at hand has the order
abbrev pub given : Kept → List (Option ℕ) → Kept
given s h = record { table = s.table; groups = s.groups; group_count = s.group_count; u = s.u; v = s.v; order_of = h }

pub kept_at_hand : (s : Kept) (h : List (Option ℕ)) (j i : ℕ) → IsKept s → IsAtHand s j i → h ≡ set s.order_of i (Some j) → IsKept (given s h)
kept_at_hand s h j i keeps at e =
    let len = keeps.held.wagons in
    let within = at.within in
    let here : get_or h i None ≡ Some j = same_at s.order_of h i (Some j) None (omega (arith, len, within)) e in
    let there : (w : ℕ) → w ≢ i → get_or h w None ≡ get_or s.order_of w None = λ w other. other_at s.order_of h i (Some j) None w e other in
    record {
      table = keeps.table;
      priced = record { wagons = keeps.priced.wagons; orders = keeps.priced.orders; no_gap = keeps.priced.no_gap; below_penalty = keeps.priced.below_penalty };
      held = record {
        wagons = written_length s.order_of h i (Some j) e ∙ len;
        tight = λ w k is. elim (cases_eq w i) [
          | inl same ↦
              let order : j ≡ k = some_same j k (get_or h i None) here (ap (λ x. get_or h x None) (sym same) ∙ is) in
              let t : IsTight s w k = subst (λ (x : ℕ). IsTight s x k) (sym same) (subst (IsTight s i) order at.tight) in
              record { cost = t.cost; allowed = t.allowed; tight = t.tight }
          | inr other ↦
              let t = keeps.held.tight w k (sym (there w other) ∙ is) in
              record { cost = t.cost; allowed = t.allowed; tight = t.tight }
        ];
        idle = λ w none. elim (cases_eq w i) [
          | inl same ↦ absurd (let is : get_or h i None ≡ None = ap (λ x. get_or h x None) (sym same) ∙ none in cc)
          | inr other ↦ keeps.held.idle w (sym (there w other) ∙ none)
        ];
      };
    }

-- the order has a wagon more
pub served_at_hand : (s : Kept) (h : List (Option ℕ)) (j i : ℕ) → IsKept s → IsAtHand s j i → h ≡ set s.order_of i (Some j) → (k : ℕ) → served k h ≡ served k s.order_of + one_if k (Some j)
served_at_hand s h j i keeps at e k =
    let len = keeps.held.wagons in
    let within = at.within in
    let step = served-set k s.order_of h i (Some j) (omega (arith, len, within)) e in
    let none : one_if k (order_at s.order_of i) ≡ 0 = ap (one_if k) at.none in
    omega (arith, step, none)

-- so its number is one more
pub numbers_at_hand : (orders : ℕ) (s : Kept) (h : List (Option ℕ)) (numbers : List ℕ) (j i : ℕ) → IsKept s → IsAtHand s j i → h ≡ set s.order_of i (Some j) → j < orders → AreServed orders s.order_of numbers → AreServed orders h (set numbers j (get_or numbers j 0 + 1))
numbers_at_hand orders s h numbers j i keeps at e l was =
    let len = was.count in
    record {
      count = written_length numbers _ j _ refl ∙ len;
      each = λ k lk.
          let now = served_at_hand s h j i keeps at e k in
          let before = was.each k lk in
          elim (cases_eq k j) [
            | inl same ↦
                let one : one_if k (Some j) ≡ 1 = grind (arith, nat_tests, same) in
                let read : get_or (set numbers j (get_or numbers j 0 + 1)) k 0 ≡ get_or numbers k 0 + 1 = ap (λ x. get_or (set numbers j (get_or numbers j 0 + 1)) x 0) same ∙ same_at numbers _ j _ 0 (omega (arith, len, l)) refl ∙ ap (λ x. get_or numbers x 0 + 1) (sym same) in
                omega (arith, now, before, one, read)
            | inr other ↦
                let none : one_if k (Some j) ≡ 0 = grind (arith, nat_tests, other) in
                let read : get_or (set numbers j (get_or numbers j 0 + 1)) k 0 ≡ get_or numbers k 0 = other_at numbers _ j _ 0 k refl other in
                omega (arith, now, before, none, read)
          ];
    }

pub counted_at_hand : (s : Kept) (h : List (Option ℕ)) (j i units : ℕ) (taken : ℕ → ℕ) → IsKept s → IsAtHand s j i → h ≡ set s.order_of i (Some j) → AreCounted s (more j units taken) → AreCounted (given s h) (more j (units + 1) taken)
counted_at_hand s h j i units taken keeps at e c =
    let len = keeps.held.wagons in
    let within = at.within in
    let counts : (k : ℕ) → served k h ≡ served k s.order_of + one_if k (Some j) = λ k.
    let step = served-set k s.order_of h i (Some j) (omega (arith, len, within)) e in
    let none : one_if k (order_at s.order_of i) ≡ 0 = ap (one_if k) at.none in
    omega (arith, step, none) in
    let all : (k : ℕ) → more j (units + 1) taken k ≡ more j units taken k + one_if k (Some j) = λ k. more-one j units taken k in
    record {
      within = λ k lk. let a = counts k in let b = c.within k lk in let m = all k in omega (arith, a, b, m);
      refused = λ k lk less. let a = counts k in let m = all k in c.refused k lk (omega (arith, a, m, less));
    }

-- the state once the wagon at hand has the order, and is counted
pub state_at_hand : (state : State) (j i : ℕ) (order_of served idle : Vec ℕ Global) → IsState state → IsAtHand (kept state) j i → IsHead state (Some i) → j < order_count state.cells.now → order_of.items ≡ set state.order_of.items i j → served.items ≡ set state.served.items j (get_or state.served.items j 0 + 1) → idle.items ≡ idle_after state.groups state.idle.items (Some i) → IsState (record state { order_of = order_of; served = served; idle = idle })
state_at_hand state j i order_of served idle is at head lj eo es ei =
    let s = kept state in
    let numbers = state.order_of.items in
    let few = is.keeps.table.orders in
    let h = orders_of order_of.items in
    let written : h ≡ set s.order_of i (Some j) = ap orders_of eo ∙ orders_set numbers i j (omega (arith, few, lj)) in
    let len = is.keeps.held.wagons in
    let within = at.within in
    let here : get_or h i None ≡ Some j = same_at s.order_of h i (Some j) None (omega (arith, len, within)) written in
    let there : (w : ℕ) → w ≢ i → get_or h w None ≡ get_or s.order_of w None = λ w other. other_at s.order_of h i (Some j) None w written other in
    record {
      keeps = kept_at_hand s h j i is.keeps at written;
      groups = is.groups;
      group_prices = is.group_prices;
      costs = is.costs;
      idle = idle_taken state.cells.now state.groups (length state.groups.first.items) s.order_of h state.idle.items idle.items i is.groups is.keeps.table.wagons refl is.idle within head (λ none. let e = sym none ∙ here in cc) (λ w l other. (λ none. sym (there w other) ∙ none, λ none. there w other ∙ none)) ei;
      bounds = record {
        count = is.bounds.count;
        least = λ w k lw lk none. elim (cases_eq w i) [
          | inl same ↦ absurd (let e = sym none ∙ ap (λ x. get_or h x None) same ∙ here in cc)
          | inr other ↦ is.bounds.least w k lw lk (sym (there w other) ∙ none)
        ];
      };
      hints = is.hints;
      served = subst (AreServed (order_count state.cells.now) h) (sym es) (numbers_at_hand (order_count state.cells.now) s h state.served.items j i is.keeps at written lj is.served);
    }

-- one unit more of an order is served by a wagon at hand
pub taken_at_hand : (before state after : State) (j units i : ℕ) (order_of served idle : Vec ℕ Global) → HasTaken before state j units → IsAtHand (kept state) j i → IsHead state (Some i) → j < order_count state.cells.now → order_of.items ≡ set state.order_of.items i j → served.items ≡ set state.served.items j (get_or state.served.items j 0 + 1) → idle.items ≡ idle_after state.groups state.idle.items (Some i) → after ≡ record state { order_of = order_of; served = served; idle = idle } → HasTaken before after j (units + 1)
taken_at_hand before state after j units i order_of served idle h at head lj eo es ei e =
    let s = kept state in
    let few = h.state.keeps.table.orders in
    let written : orders_of order_of.items ≡ set s.order_of i (Some j) = ap orders_of eo ∙ orders_set state.order_of.items i j (omega (arith, few, lj)) in
    let whole : HasTaken before (record state { order_of = order_of; served = served; idle = idle }) j (units + 1) = record {
      state = state_at_hand state j i order_of served idle h.state at head lj eo es ei;
      counted = λ taken counted. counted_at_hand s (orders_of order_of.items) j i units taken h.state.keeps at written (h.counted taken counted);
      table = h.table;
      groups = h.groups;
    } in
    subst (λ (x : State). HasTaken before x j (units + 1)) (sym e) whole
