use Rattle.std.proofs.Common.{◌≡◌, ◌+◌, ◌<◌, ◌≤◌, ℕ, List, Vec, length, get_or, refl, sym, ◌∙◌, ap, arith, inl, inr, subst, min}
use Rattle.std.specs.declared.alloc.Global.{Global}
use Rattle.std.proofs.lemmas.Bool.{cases_eq, cases_lt}
use Rattle.cost_table.specs.Table.{cost_at, wagon_count}
use Rattle.assignment.specs.declared.search.Search.{Search}
use Rattle.assignment.specs.inner.Costs.{cell_cost}
use Rattle.assignment.specs.inner.Passes.{through}
use Rattle.assignment.specs.inner.State.{Kept, IsKept}
use Rattle.assignment.specs.inner.Search.{IsSearch, IsKnown, IsWagonReached, ahead_of, closed_of, group_at, label_at, reach, settled_at, distance_at}
use Rattle.assignment.proofs.Labels.{label_closed, label_open}
use Rattle.assignment.proofs.Limits.{cell_gap}
use Rattle.assignment.proofs.Regrouped.{end_regrouped, reached_regrouped, settled_regrouped, walking_regrouped}
use Rattle.assignment.proofs.Spans.{span_kept}

-- each group that leads on took the nearer of its distance and that over the order at the front
pub record IsRelabelled (s : Kept) (f : Search) (scanned : ℕ) (ahead : List ℕ) : Type 0 where
  pub last : scanned + 1 ≡ length f.orders.items
  pub count : length ahead ≡ s.group_count
  pub leads : (g : ℕ) → g < s.group_count → 0 < get_or ahead g 0 → 0 < ahead_of f g
  pub labels : (i : ℕ) → i < wagon_count s.table → get_or ahead (group_at s i) 0 ≡ min (ahead_of f (group_at s i)) (through (f.front + 1) (get_or s.v (settled_at f scanned) 0) (cell_cost (cost_at s.table i (settled_at f scanned))) (get_or s.u i 0))

-- a wagon's distance stays, or it is the lesser of what it was and a new one
data IsLowered (f f' : Search) (group label label' distance : ℕ) : Type 0 where
  stays : ahead_of f group ≡ 0 → ahead_of f' group ≡ 0 → label' ≡ label → IsLowered f f' group label label' distance
  lowered : 0 < ahead_of f group → 0 < ahead_of f' group → label' ≡ min label distance → IsLowered f f' group label label' distance

-- what a wagon's new distance is
record IsNew (s : Kept) (f f' : Search) (order i : ℕ) : Type 0 where
  distance : ℕ
  exact : distance + get_or s.v order 0 ≡ f.front + cell_cost (cost_at s.table i order) + get_or s.u i 0
  beyond : f.front ≤ distance
  is : IsLowered f f' (group_at s i) (label_at s f i) (label_at s f' i) distance

new_label : (s : Kept) (f : Search) (scanned : ℕ) (ahead : Vec ℕ Global) (i : ℕ) → IsKept s → IsSearch s f scanned → IsRelabelled s f scanned ahead.items → i < wagon_count s.table → IsNew s f (record f { ahead = ahead }) (settled_at f scanned) i
new_label s f scanned ahead i k h r l =
    let last = r.last in
    let order = settled_at f scanned in
    let g = group_at s i in
    let f' : Search = record f { ahead = ahead } in
    let gap = cell_gap s i order k (h.settled.order scanned (omega (arith, last))) in
    let now = r.labels i l in
    let far = through f.front (get_or s.v order 0) (cell_cost (cost_at s.table i order)) (get_or s.u i 0) in
    record {
      distance = far;
      exact = omega (arith, gap);
      beyond = omega (arith, gap);
      is = elim (cases_eq (ahead_of f g) 0) [
        | inl none ↦
            let none' : ahead_of f' g ≡ 0 = omega (arith, now, none) in
            stays none none' (label_closed (ahead_of f' g) (closed_of f g) none' ∙ sym (label_closed (ahead_of f g) (closed_of f g) none))
        | inr other ↦
            let leads : 0 < ahead_of f g = omega (arith, other) in
            let leads' : 0 < ahead_of f' g = omega (arith, now, leads) in
            let a = label_open (ahead_of f g) (closed_of f g) leads in
            let b = label_open (ahead_of f' g) (closed_of f g) leads' in
            lowered leads leads' (omega (arith, a, b, now))
      ];
    }

-- the order at the front is relaxed
front_relaxed : (s : Kept) (f f' : Search) (scanned i distance : ℕ) → IsSearch s f scanned → scanned + 1 ≡ length f.orders.items → i < wagon_count s.table → distance_at f (settled_at f scanned) ≡ f.front → distance + get_or s.v (settled_at f scanned) 0 ≡ f.front + cell_cost (cost_at s.table i (settled_at f scanned)) + get_or s.u i 0 → f.front ≤ distance → IsLowered f f' (group_at s i) (label_at s f i) (label_at s f' i) distance → min (label_at s f' i) f.end.distance + get_or s.v (settled_at f scanned) 0 ≤ reach s f i (settled_at f scanned)
front_relaxed s f f' scanned i distance h last l far exact beyond (lowered leads leads' is) = omega (arith, far, exact, is)
front_relaxed s f f' scanned i distance h last l far exact beyond (stays none none' is) =
    elim (cases_lt (label_at s f i) 4294967295) [
      | inl near ↦ let low = (h.known i l).closed none near in omega (arith, far, exact, beyond, is, low)
      | inr skipped ↦
          let like = (h.known i l).skipped skipped in
          let order = settled_at f scanned in
          let end = h.end.wagons scanned like.wagon (omega (arith, last)) like.within like.none in
          let cost : cell_cost (cost_at s.table like.wagon order) ≡ cell_cost (cost_at s.table i order) = ap cell_cost (like.cells order) in
          let price = like.price in
          omega (arith, end, cost, price)
    ]

lower_label : (s : Kept) (f f' : Search) (i distance : ℕ) → IsLowered f f' (group_at s i) (label_at s f i) (label_at s f' i) distance → label_at s f' i ≤ label_at s f i
lower_label s f f' i distance (lowered leads leads' is) = omega (arith, is)
lower_label s f f' i distance (stays none none' is) = omega (arith, is)

-- a wagon that is no farther than the front keeps its distance
near_label : (s : Kept) (f f' : Search) (i distance : ℕ) → f.front ≤ distance → label_at s f i ≤ f.front → IsLowered f f' (group_at s i) (label_at s f i) (label_at s f' i) distance → label_at s f' i ≡ label_at s f i
near_label s f f' i distance beyond near (lowered leads leads' is) = omega (arith, is, beyond, near)
near_label s f f' i distance beyond near (stays none none' is) = is

known_relabelled : (s : Kept) (f f' : Search) (i distance : ℕ) → IsKnown s f i → f'.front ≡ f.front → f'.order_distance ≡ f.order_distance → f'.closed_at ≡ f.closed_at → f.front ≤ distance → IsLowered f f' (group_at s i) (label_at s f i) (label_at s f' i) distance → IsKnown s f' i
known_relabelled s f f' i distance was front distances closes beyond (lowered leads leads' is) =
    let d : (k : ℕ) → distance_at f' k ≡ distance_at f k = λ k. ap (λ (y : Vec ℕ Global). get_or y.items k 0) distances in
    let close : closed_of f' (group_at s i) ≡ closed_of f (group_at s i) = ap (λ (y : Vec ℕ Global). get_or y.items (group_at s i) 0) closes in
    record {
      held = λ k held. let m = was.held k held in let e = d k in omega (arith, m, e, is, beyond, front);
      idle = λ none. absurd (let m = (was.idle none).0 in omega (arith, m, leads));
      skipped = λ far. was.skipped (omega (arith, far, is));
      front = λ _. let m = was.front leads in omega (arith, m, is, beyond, front);
      fresh = λ _. let m = was.fresh leads in omega (arith, m, close);
      closed = λ none _. absurd (omega (arith, none, leads'));
      settled = λ none _ k held. absurd (omega (arith, none, leads'));
    }
known_relabelled s f f' i distance was front distances closes beyond (stays none none' is) =
    let d : (k : ℕ) → distance_at f' k ≡ distance_at f k = λ k. ap (λ (y : Vec ℕ Global). get_or y.items k 0) distances in
    record {
      held = λ k held. let m = was.held k held in let e = d k in omega (arith, m, e, is, front);
      idle = λ is_none. let m = (was.idle is_none).1 in (none', omega (arith, m, is));
      skipped = λ far. was.skipped (omega (arith, far, is));
      front = λ leads. absurd (omega (arith, leads, none'));
      fresh = λ leads. absurd (omega (arith, leads, none'));
      closed = λ _ near. let m = was.closed none (omega (arith, near, is)) in omega (arith, m, is, front);
      settled = λ _ near k held. let m = was.settled none (omega (arith, near, is)) k held in let e = d k in omega (arith, m, e);
    }

-- a wagon's new distance is one at which it was reached
reached_relabelled : (s : Kept) (f f' : Search) (scanned i distance : ℕ) → IsSearch s f scanned → scanned + 1 ≡ length f.orders.items → f' ≡ record f { ahead = f'.ahead } → i < wagon_count s.table → distance_at f (settled_at f scanned) ≡ f.front → distance + get_or s.v (settled_at f scanned) 0 ≡ f.front + cell_cost (cost_at s.table i (settled_at f scanned)) + get_or s.u i 0 → IsLowered f f' (group_at s i) (label_at s f i) (label_at s f' i) distance → label_at s f' i ≤ 1000000000 → IsWagonReached s f (label_at s f' i) (length f.orders.items) i
reached_relabelled s f f' scanned i distance h last same l far exact (stays none none' is) near = subst (λ (y : ℕ). IsWagonReached s f y (length f.orders.items) i) (sym is) (h.labels i l (omega (arith, near, is)))
reached_relabelled s f f' scanned i distance h last same l far exact (lowered leads leads' is) near =
    elim (cases_lt distance (label_at s f i)) [
      | inl less ↦ record { index = scanned; before = omega (arith, last); from = record { within = omega (arith, last); exact = omega (arith, exact, is, far, less) } }
      | inr more ↦
          let e : label_at s f' i ≡ label_at s f i = omega (arith, is, more) in
          subst (λ (y : ℕ). IsWagonReached s f y (length f.orders.items) i) (sym e) (h.labels i l (omega (arith, near, e)))
    ]

pub search_relaxed : (s : Kept) (f : Search) (scanned : ℕ) (ahead : Vec ℕ Global) → IsKept s → IsSearch s f scanned → IsRelabelled s f scanned ahead.items → IsSearch s (record f { ahead = ahead }) (scanned + 1)
search_relaxed s f scanned ahead k h r =
    let f' : Search = record f { ahead = ahead } in
    let last = r.last in
    let far = h.settled.last scanned last in
    let new = λ (i : ℕ) (l : i < wagon_count s.table). new_label s f scanned ahead i k h r l in
    record {
      room = record {
        ahead = r.count;
        closed = h.room.closed;
        cursors = h.room.cursors;
        distances = h.room.distances;
        orders = h.room.orders;
        vias = h.room.vias;
      };
      span = span_kept f.ahead.items ahead.items f.span h.span (r.count ∙ sym h.room.ahead) (λ g l. r.leads g (let count = h.room.ahead in omega (arith, l, count)));
      labels = λ i l near. let n = new i l in reached_regrouped s f ahead f.span f.closed_at f.cursor _ _ i (reached_relabelled s f f' scanned i n.distance h last refl l far n.exact n.is near);
      relaxed = λ x lx i l.
          let n = new i l in
          elim (cases_eq x scanned) [
            | inl same ↦ subst (λ (y : ℕ). min (label_at s f' i) f.end.distance + get_or s.v (settled_at f y) 0 ≤ reach s f i (settled_at f y)) (sym same) (front_relaxed s f f' scanned i n.distance h last l far n.exact n.beyond n.is)
            | inr other ↦ let was = h.relaxed x (omega (arith, lx, other)) i l in let low = lower_label s f f' i n.distance n.is in omega (arith, was, low)
          ];
      known = λ i l. let n = new i l in known_relabelled s f f' i n.distance (h.known i l) refl refl refl n.beyond n.is;
      walked = λ g l. walking_regrouped s f ahead f.span f.closed_at f.cursor g _ (h.walked g l);
      settled = settled_regrouped s f ahead f.span f.closed_at f.cursor h.settled (λ i l near. let n = new i l in near_label s f f' i n.distance n.beyond near n.is);
      end = end_regrouped s f ahead f.span f.closed_at f.cursor h.end;
    }
