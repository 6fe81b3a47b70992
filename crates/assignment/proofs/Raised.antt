use Rattle.std.proofs.Common.{◌≡◌, ◌+◌, ◌-◌, ◌<◌, ◌≤◌, ℕ, List, Option, Some, None, length, get_or, min, sym, ◌∙◌, ap, arith, inl, inr, subst, refl}
use Rattle.std.specs.Prelude.{vec_len}
use Rattle.std.specs.Vec.{with_items}
use Rattle.std.proofs.lemmas.Bool.{cases_eq, cases_lt}
use Rattle.std.proofs.lemmas.List.{get_or_past, length-map, with_items_is}
use Rattle.cost_table.specs.Table.{cost_at, penalty_at, wagon_count, order_count}
use Rattle.assignment.specs.declared.search.Search.{Search}
use Rattle.assignment.specs.declared.state.State.{State}
use Rattle.assignment.specs.inner.Costs.{cell_cost}
use Rattle.assignment.specs.inner.Groups.{prices_of}
use Rattle.assignment.specs.inner.State.{Kept, IsKept, IsPriced, IsTight, AreHeld, IsEndAt, IsState, kept, order_at}
use Rattle.assignment.specs.inner.Search.{IsShortestPath, IsReachedFrom, IsRelaxed, ahead_of, closed_of, group_at, label_at, settled_at, distance_at}
use Rattle.assignment.specs.inner.Path.{AreHandedOn, IsOnPath, IsOnPathTo}
use Rattle.assignment.proofs.Grouping.{group_price}
use Rattle.assignment.proofs.Labels.{label_closed}
use Rattle.assignment.proofs.Limits.{cell_wagon, cell_order, penalty_limit}

-- Each price was raised by how much nearer than the path's end its wagon or order is.
pub record AreRaised (s : Kept) (f : Search) (u v : List ℕ) : Type 0 where
  pub wagons_count : length u ≡ length s.u
  pub orders_count : length v ≡ length s.v
  pub wagons : (i : ℕ) → i < length s.u → get_or u i 0 ≡ get_or s.u i 0 + (f.end.distance - label_at s f i)
  pub orders : (k : ℕ) → k < length s.v → get_or v k 0 ≡ get_or s.v k 0 + (f.end.distance - distance_at f k)

-- both prices of a state are raised, and nothing else that they belong to has changed
pub record HasRaised (old : State) (f : Search) (state : State) (u v : List ℕ) : Type 0 where
  pub prices : AreRaised (kept old) f (prices_of old.groups.of.items u) v
  pub group_prices : length u ≡ length old.groups.first.items
  pub table : state.cells.now ≡ old.cells.now
  pub wagon_prices : (with_items state.u u).items ≡ u
  pub order_prices : (with_items state.v v).items ≡ v

-- a group that isn't closed is as far as the path's end, so it is as if each had the distance at which it was closed
rise_same : (s : Kept) (f : Search) (i : ℕ) → IsShortestPath s f → i < wagon_count s.table → f.end.distance - closed_of f (group_at s i) ≡ f.end.distance - label_at s f i
rise_same s f i h l =
    let limit = h.search.end.limit h.some in
    elim (cases_eq (ahead_of f (group_at s i)) 0) [
      | inl none ↦ let e = label_closed (ahead_of f (group_at s i)) (closed_of f (group_at s i)) none in omega (arith, e)
      | inr other ↦
          let fresh = (h.search.known i l).fresh (omega (arith, other)) in
          let beyond = h.beyond i l (omega (arith, other)) in
          omega (arith, fresh, beyond, limit)
    ]

-- where only the wagons' orders were written before
pub has_raised : (old state : State) (f : Search) (u v from_u from_v closed distances : List ℕ) → IsState old → IsShortestPath (kept old) f → state ≡ record old { order_of = state.order_of }
    → from_u ≡ state.u.items → from_v ≡ state.v.items → closed ≡ f.closed_at.items → distances ≡ f.order_distance.items → length u ≡ length from_u → length v ≡ length from_v
    → length from_u ≡ vec_len state.u → length from_v ≡ vec_len state.v
    → ((i : ℕ) → i < length from_u → get_or u i 0 ≡ get_or from_u i 0 + (f.end.distance - get_or closed i 0)) → ((k : ℕ) → k < length from_v → get_or v k 0 ≡ get_or from_v k 0 + (f.end.distance - get_or distances k 0))
    → HasRaised old f state u v
has_raised old state f u v from_u from_v closed distances is_state path same is_u is_v are_closed are_distances len_u len_v vec_u vec_v wagons orders =
    let s = kept old in
    let of = old.groups.of.items in
    let lu : from_u ≡ old.u.items = is_u ∙ ap (λ (x : State). x.u.items) same in
    let lv : from_v ≡ old.v.items = is_v ∙ ap (λ (x : State). x.v.items) same in
    let counted : length u ≡ length old.groups.first.items = len_u ∙ ap length lu ∙ is_state.group_prices in
    let grouped = is_state.groups.grouped in
    let priced = is_state.group_prices in
    record {
      prices = record {
        wagons_count = length-map of (λ g. get_or u g 0) ∙ sym (length-map of (λ g. get_or old.u.items g 0));
        orders_count = len_v ∙ ap length lv;
        wagons = λ i li.
            let in_of : i < length of = (let e = length-map of (λ g. get_or old.u.items g 0) in omega (arith, li, e)) in
            let lw : i < wagon_count s.table = omega (arith, in_of, grouped) in
            let g = get_or of i 0 in
            let lg = is_state.groups.group i lw in
            let b = ap length lu in
            let up : get_or u g 0 ≡ get_or old.u.items g 0 + (f.end.distance - closed_of f g) = rw (lu, are_closed) at (wagons g (omega (arith, lg, b, priced))) in
            let now = group_price of u i in_of in
            let was = group_price of old.u.items i in_of in
            let rise = rise_same s f i path lw in
            omega (arith, up, now, was, rise);
        orders = λ k lk. rw (lv, are_distances) at (orders k (let b = ap length lv in omega (arith, lk, b)));
      };
      group_prices = counted;
      table = ap (λ (x : State). x.cells.now) same;
      wagon_prices = with_items_is state.u u (len_u ∙ vec_u);
      order_prices = with_items_is state.v v (len_v ∙ vec_v);
    }

-- what is kept once the prices are raised and the orders handed on
abbrev pub raised : Kept → List ℕ → List ℕ → List (Option ℕ) → Kept
raised s u v order_of = record { table = s.table; groups = s.groups; group_count = s.group_count; u = u; v = v; order_of = order_of }

-- what is known of an order after the search
data Reach (s : Kept) (f : Search) (k : ℕ) : Type 0 where
  far : 4294967295 ≤ distance_at f k → Reach s f k
  last : f.end.distance ≤ distance_at f k → distance_at f k ≤ f.front → Reach s f k
  near : distance_at f k ≤ f.front → distance_at f k ≤ f.end.distance → IsRelaxed s f k → f.end.distance + get_or s.v k 0 ≤ distance_at f k + penalty_at s.table k → Reach s f k

reach_at : (s : Kept) (f : Search) (k : ℕ) → IsShortestPath s f → k < order_count s.table → Reach s f k
reach_at s f k h l =
    elim (cases_lt (distance_at f k) 4294967295) [
      | inl n ↦
          let at = h.search.settled.listed k l n in
          let below = h.search.settled.near at.index at.within in
          let front = h.search.end.beyond in
          let least = h.search.end.refusals at.index at.within in
          let is = at.is in
          let e : distance_at f (settled_at f at.index) ≡ distance_at f k = ap (distance_at f) is in
          let v : get_or s.v (settled_at f at.index) 0 ≡ get_or s.v k 0 = ap (λ y. get_or s.v y 0) is in
          let p : penalty_at s.table (settled_at f at.index) ≡ penalty_at s.table k = ap (penalty_at s.table) is in
          elim (h.relaxed at.index at.within) [
            | inl relaxed ↦ near (omega (arith, below, e)) (omega (arith, below, front, e)) (subst (IsRelaxed s f) is relaxed) (omega (arith, least, e, v, p))
            | inr beyond ↦ last (omega (arith, beyond, e)) (omega (arith, below, e))
          ]
      | inr n ↦ far n
    ]

gap_raised : (s : Kept) (f : Search) (u v : List ℕ) (i j c : ℕ) → IsKept s → AreRaised s f u v → f.end.distance ≤ 1000000000 → cost_at s.table i j ≡ Some c → i < length s.u → j < length s.v → Reach s f j → get_or v j 0 ≤ c + get_or u i 0
gap_raised s f u v i j c k r limit is li lj (far n) =
    let a = r.wagons i li in
    let b = r.orders j lj in
    let g = k.priced.no_gap i j c is in
    omega (arith, a, b, g, n, limit)
gap_raised s f u v i j c k r limit is li lj (last beyond below) =
    let a = r.wagons i li in
    let b = r.orders j lj in
    let g = k.priced.no_gap i j c is in
    omega (arith, a, b, g, beyond)
gap_raised s f u v i j c k r limit is li lj (near least le relaxed refusal) =
    let a = r.wagons i li in
    let b = r.orders j lj in
    let w = k.priced.wagons in
    let e : cell_cost (cost_at s.table i j) ≡ c = ap cell_cost is in
    let g = relaxed i (omega (arith, li, w)) in
    omega (arith, a, b, g, e, le)

penalty_raised : (s : Kept) (f : Search) (u v : List ℕ) (j : ℕ) → IsKept s → AreRaised s f u v → f.end.distance ≤ 1000000000 → j < length s.v → j < order_count s.table → Reach s f j → get_or v j 0 ≤ penalty_at s.table j
penalty_raised s f u v j k r limit lj l (far n) = let b = r.orders j lj in let p = k.priced.below_penalty j l in omega (arith, b, p, n, limit)
penalty_raised s f u v j k r limit lj l (last beyond below) = let b = r.orders j lj in let p = k.priced.below_penalty j l in omega (arith, b, p, beyond)
penalty_raised s f u v j k r limit lj l (near least le relaxed refusal) = let b = r.orders j lj in omega (arith, b, le, refusal)

pub priced_raised : (s : Kept) (f : Search) (u v : List ℕ) (order_of : List (Option ℕ)) → IsKept s → IsShortestPath s f → AreRaised s f u v → IsPriced (raised s u v order_of)
priced_raised s f u v order_of k h r =
    let w = k.priced.wagons in
    let o = k.priced.orders in
    let limit = h.search.end.limit h.some in
    record {
      wagons = r.wagons_count ∙ w;
      orders = r.orders_count ∙ o;
      no_gap = λ i j c is.
          let li = cell_wagon s.table i j c k.table is in
          let lj = cell_order s.table i j c k.table is in
          gap_raised s f u v i j c k r limit is (omega (arith, li, w)) (omega (arith, lj, o)) (reach_at s f j h lj);
      below_penalty = λ j lj. penalty_raised s f u v j k r limit (omega (arith, lj, o)) lj (reach_at s f j h lj);
    }

-- a wagon whose order isn't settled is as far as the path's end
unsettled_far : (s : Kept) (f : Search) (i q : ℕ) → IsShortestPath s f → i < wagon_count s.table → order_at s.order_of i ≡ Some q → 4294967295 ≤ distance_at f q → f.end.distance ≤ label_at s f i
unsettled_far s f i q h l held open_order =
    let limit = h.search.end.limit h.some in
    elim (cases_lt (label_at s f i) 4294967295) [
      | inl nearer ↦ elim (cases_lt 0 (ahead_of f (group_at s i))) [
        | inl leads ↦ h.beyond i l leads
        | inr none ↦ absurd (let done = (h.search.known i l).settled (omega (arith, none)) nearer q held in omega (arith, done, open_order))
      ]
      | inr skipped ↦ omega (arith, skipped, limit)
    ]

-- a cell stays tight where both prices were raised by as much
tight_after : (s : Kept) (f : Search) (u v : List ℕ) (order_of : List (Option ℕ)) (i q : ℕ) → IsKept s → AreRaised s f u v → i < wagon_count s.table → q < order_count s.table → IsTight s i q → f.end.distance - label_at s f i ≡ f.end.distance - distance_at f q → IsTight (raised s u v order_of) i q
tight_after s f u v order_of i q k r li lq tight same =
    let w = k.priced.wagons in
    let o = k.priced.orders in
    let a = r.wagons i (omega (arith, li, w)) in
    let b = r.orders q (omega (arith, lq, o)) in
    let e = tight.tight in
    record { cost = tight.cost; allowed = tight.allowed; tight = omega (arith, a, b, e, same) }

-- as those of a wagon and the order that it keeps are
as_much_nearer : (s : Kept) (f : Search) (i q : ℕ) → IsShortestPath s f → order_at s.order_of i ≡ Some q → IsTight s i q → i < wagon_count s.table → Reach s f q → f.end.distance - label_at s f i ≡ f.end.distance - distance_at f q
as_much_nearer s f i q h held tight li (far n) =
    let beyond = unsettled_far s f i q h li held n in
    let limit = h.search.end.limit h.some in
    omega (arith, beyond, limit, n)
as_much_nearer s f i q h held tight li (last beyond below) = let at = (h.search.known i li).held q held in omega (arith, at, beyond, below)
as_much_nearer s f i q h held tight li (near least le relaxed refusal) =
    let at = (h.search.known i li).held q held in
    let e = tight.tight in
    let c : cell_cost (cost_at s.table i q) ≡ tight.cost = ap cell_cost tight.allowed in
    let g = relaxed i li in
    omega (arith, e, at, g, c, least, le)

-- a wagon on the path is one of the table's
via_wagon : (s : Kept) (f : Search) (i x : ℕ) → IsShortestPath s f → 0 < x → x < length f.orders.items → get_or f.via.items x 0 ≡ i → i < wagon_count s.table
via_wagon s f i x h pos lx is = let w = (h.search.settled.led x pos lx).wagon in omega (arith, w, is)

path_wagon : (s : Kept) (f : Search) (end : Option ℕ) (i j d e : ℕ) → IsShortestPath s f → IsEndAt s j d e end → IsOnPathTo f end i → i < wagon_count s.table
path_wagon s f (Some w) i j d e h end (inl same) = let l = end.0 in omega (arith, l, same)
path_wagon s f (Some w) i j d e h end (inr p) = via_wagon s f i p.0 h p.1 p.2 p.3
path_wagon s f None i j d e h end p = via_wagon s f i p.0 h p.1 p.2 p.3

-- a number that isn't that of a missing cell is a cell's cost
pub data Cell (o : Option ℕ) : Type 0 where
  cell : (c : ℕ) → o ≡ Some c → Cell o

pub cheap : (o : Option ℕ) → cell_cost o ≤ 1000000000 → Cell o
cheap None l = absurd (omega (arith, l))
cheap (Some c) l = cell c refl

tight_cell : (s : Kept) (i q : ℕ) → Cell (cost_at s.table i q) → get_or s.v q 0 ≡ cell_cost (cost_at s.table i q) + get_or s.u i 0 → IsTight s i q
tight_cell s i q (cell c is) tight = record { cost = c; allowed = is; tight = tight ∙ ap (λ o. cell_cost o + get_or s.u i 0) is }

-- a wagon that gets the order that it was reached from gets it at a tight cell
tight_new : (s : Kept) (f : Search) (u v : List ℕ) (order_of : List (Option ℕ)) (i k x : ℕ) → IsKept s → IsShortestPath s f → AreRaised s f u v → i < wagon_count s.table → IsReachedFrom s f (min (label_at s f i) f.end.distance) i x → k ≡ settled_at f x → IsTight (raised s u v order_of) i k
tight_new s f u v order_of i k x keeps h r li label is =
    let q = settled_at f x in
    let lq : q < order_count s.table = h.search.settled.order x label.within in
    let below = h.search.settled.near x label.within in
    let front = h.search.end.beyond in
    let least = h.search.end.refusals x label.within in
    let penalty = penalty_limit s.table q keeps.table in
    let w = keeps.priced.wagons in
    let o = keeps.priced.orders in
    let a = r.wagons i (omega (arith, li, w)) in
    let b = r.orders q (omega (arith, lq, o)) in
    let exact = label.exact in
    let number : cell_cost (cost_at s.table i q) ≤ 1000000000 = omega (arith, exact, least, penalty) in
    subst (λ (y : ℕ). IsTight (raised s u v order_of) i y) (sym is) (tight_cell (raised s u v order_of) i q (cheap (cost_at s.table i q) number) (omega (arith, a, b, exact, below, front)))

some_inner : (a b : ℕ) (o : Option ℕ) → o ≡ Some a → o ≡ Some b → a ≡ b
some_inner a b o p q = cc

pub held_raised : (s : Kept) (f : Search) (u v : List ℕ) (order_of : List (Option ℕ)) → IsKept s → IsShortestPath s f → AreRaised s f u v → length order_of ≡ length s.order_of → AreHandedOn s f (IsOnPath f) order_of → AreHeld (raised s u v order_of)
held_raised s f u v order_of k h r len handed = record {
  wagons = len ∙ k.held.wagons;
  tight = λ i q is. elim (handed i) [
    | inl same ↦
        let was = sym same ∙ is in
        let tight = k.held.tight i q was in
        let li = cell_wagon s.table i q tight.cost k.table tight.allowed in
        let lq = cell_order s.table i q tight.cost k.table tight.allowed in
        tight_after s f u v order_of i q k r li lq tight (as_much_nearer s f i q h was tight li (reach_at s f q h lq))
    | inr moved ↦ tight_new s f u v order_of i q moved.1.index k h r (path_wagon s f f.end.wagon i _ _ _ h (h.search.end.is h.some) moved.0) moved.1.from (some_inner _ _ (order_at order_of i) is moved.1.order)
  ];
  idle = λ i none. elim (handed i) [
    | inl same ↦
        let was = k.held.idle i (sym same ∙ none) in
        let w = k.priced.wagons in
        let limit = h.search.end.limit h.some in
        elim (cases_lt i (wagon_count s.table)) [
          | inl li ↦ let a = r.wagons i (omega (arith, li, w)) in let b = ((h.search.known i li).idle (sym same ∙ none)).1 in omega (arith, was, a, b, limit)
          | inr past ↦ get_or_past u i 0 (let a = r.wagons_count in omega (arith, a, w, past))
        ]
    | inr moved ↦ absurd (let e = sym none ∙ moved.1.order in cc)
  ];
}
