use Rattle.std.proofs.Common.{◌≡◌, ◌≢◌, ◌+◌, ◌<◌, ◌≤◌, ℕ, Bool, true, false, cond, ltb, List, [], ◌∷◌, ◌++◌, Some, Vec, length, get_or, set, refl, sym, ◌∙◌, ap, arith, inl, inr, subst}
use Rattle.std.specs.declared.alloc.Global.{Global}
use Rattle.std.specs.Vec.{vec_capacity}
use Rattle.std.proofs.lemmas.Bool.{cases_eq, cases_lt}
use Rattle.std.proofs.lemmas.Bool.Decides.{nat_tests}
use Rattle.std.proofs.lemmas.List.{length_push, get_or_push, get_or_append_left}
use Rattle.cost_table.specs.Table.{penalty_at, wagon_count, order_count}
use Rattle.assignment.specs.declared.search.Search.{Search}
use Rattle.assignment.specs.declared.search.End.{End}
use Rattle.assignment.specs.declared.search.Next.{Next}
use Rattle.assignment.specs.inner.State.{Kept, IsKept, IsEndAt, IsEndFound, order_at}
use Rattle.assignment.specs.inner.Search.{IsSearch, IsNext, IsKnown, IsLed, IsWalking, IsWagonReached, AreSettled, IsNearestEnd, ahead_of, group_at, label_at, settled_at, distance_at, reach}
use Rattle.assignment.proofs.Writes.{same_at, other_at, written_length}
use Rattle.assignment.proofs.Limits.{held_order, penalty_limit}
use Rattle.assignment.proofs.Labels.{HaveSameLabels, ahead_same, closed_same, label_same}
use Rattle.assignment.proofs.Nearness.{near_count_more, near_count_below}

abbrev pub next_of : ℕ → ℕ → ℕ → Next
next_of order distance wagon = record { order = order; distance = distance; wagon = wagon }

-- the nearest end once a path may end at the order settled last
abbrev pub end_with : Search → End → End
end_with f end = cond (ltb end.distance f.end.distance) end f.end

-- an order settled at a distance through a wagon
pub record IsSettled (f : Search) (order distance wagon : ℕ) (distances orders via : List ℕ) : Type 0 where
  pub distances_are : distances ≡ set f.order_distance.items order distance
  pub orders_are : orders ≡ f.orders.items ++ order ∷ []
  pub via_are : via ≡ f.via.items ++ wagon ∷ []

-- what was settled before stays, and the order is settled last
record IsPushed (s : Kept) (f : Search) (order distance : ℕ) (distances orders : List ℕ) : Type 0 where
  count : length orders ≡ length f.orders.items + 1
  before : (x : ℕ) → x < length f.orders.items → get_or orders x 0 ≡ settled_at f x
  at_end : get_or orders (length f.orders.items) 0 ≡ order
  here : get_or distances order 0 ≡ distance
  there : (k : ℕ) → k ≢ order → get_or distances k 0 ≡ distance_at f k
  other : (x : ℕ) → x < length f.orders.items → settled_at f x ≢ order

pushed : (s : Kept) (f : Search) (order distance wagon : ℕ) (distances orders via : List ℕ) (n : ℕ) → IsSearch s f n → IsNext s f (next_of order distance wagon) → IsSettled f order distance wagon distances orders via → IsPushed s f order distance distances orders
pushed s f order distance wagon distances orders via n h next r =
    let l = next.within in
    let room = h.room.distances in
    record {
      count = ap length r.orders_are ∙ length_push f.orders.items order;
      before = λ x lx. ap (λ y. get_or y x 0) r.orders_are ∙ get_or_append_left f.orders.items (order ∷ []) 0 x lx;
      at_end = ap (λ y. get_or y (length f.orders.items) 0) r.orders_are ∙ get_or_push f.orders.items order 0 (length f.orders.items) refl;
      here = same_at f.order_distance.items distances order distance 0 (omega arith) r.distances_are;
      there = λ k apart. other_at f.order_distance.items distances order distance 0 k r.distances_are apart;
      other = λ x lx same.
          let near = h.settled.near x lx in
          let front = next.front in
          let limit = next.limit in
          let far = next.far in
          let e : distance_at f (settled_at f x) ≡ distance_at f order = ap (distance_at f) same in
          omega (arith, near, front, limit, far, e);
    }

-- the search after an order is settled
abbrev pub settled_search : Search → ℕ → End → Vec ℕ Global → Vec ℕ Global → Vec ℕ Global → Search
settled_search f distance end distances orders via =
    record f { order_distance = distances; orders = orders; via = via; front = distance; end = end }

-- a wagon whose order isn't settled is no nearer than the order that is settled next
far_wagon : (s : Kept) (f : Search) (order distance wagon n i q : ℕ) → IsSearch s f n → IsNext s f (next_of order distance wagon) → i < wagon_count s.table → order_at s.order_of i ≡ Some q → 4294967295 ≤ distance_at f q → distance ≤ label_at s f i
far_wagon s f order distance wagon n i q h next l held far =
    let limit = next.limit in
    elim (cases_lt (label_at s f i) 4294967295) [
      | inl near ↦ elim (cases_lt 0 (ahead_of f (group_at s i))) [
        | inl leads ↦ next.beyond i l leads
        | inr none ↦ absurd (let done = (h.known i l).settled (omega (arith, none)) near q held in omega (arith, done, far))
      ]
      | inr skipped ↦ omega (arith, skipped, limit)
    ]

known_settled : (s : Kept) (f f' : Search) (order distance wagon n i : ℕ) → IsKept s → IsSearch s f n → IsNext s f (next_of order distance wagon) → i < wagon_count s.table → f'.front ≡ distance → HaveSameLabels f f' → distance_at f' order ≡ distance → ((k : ℕ) → k ≢ order → distance_at f' k ≡ distance_at f k) → IsKnown s f' i
known_settled s f f' order distance wagon n i k h next l front same here there =
    let was = h.known i l in
    let label = label_same s f f' i same in
    let ahead = ahead_same s f f' i same in
    let close = closed_same s f f' i same in
    let limit = next.limit in
    record {
      held = λ q held. elim (cases_eq q order) [
        | inl is ↦ let m = far_wagon s f order distance wagon n i q h next l held (let e : distance_at f q ≡ distance_at f order = ap (distance_at f) is in let far = next.far in omega (arith, e, far)) in omega (arith, m, front, label)
        | inr other ↦
            let d = there q other in
            elim (cases_lt (distance_at f q) 4294967295) [
              | inl near ↦
                  let at = h.settled.listed q (held_order s i q k held) near in
                  let least = h.settled.near at.index at.within in
                  let e : distance_at f (settled_at f at.index) ≡ distance_at f q = ap (distance_at f) at.is in
                  let before = was.held q held in
                  omega (arith, d, least, e, before, label)
              | inr far ↦ let m = far_wagon s f order distance wagon n i q h next l held far in omega (arith, m, front, label)
            ]
      ];
      idle = λ none. let before = was.idle none in let a = before.0 in let b = before.1 in (omega (arith, a, ahead), omega (arith, b, label));
      skipped = λ far. was.skipped (omega (arith, far, label));
      front = λ leads. let m = next.beyond i l (omega (arith, leads, ahead)) in omega (arith, m, front, label);
      fresh = λ leads. let c = was.fresh (omega (arith, leads, ahead)) in omega (arith, c, close);
      closed = λ none near. let m = was.closed (omega (arith, none, ahead)) (omega (arith, near, label)) in let f0 = next.front in omega (arith, m, f0, front, label);
      settled = λ none near q held. elim (cases_eq q order) [
        | inl is ↦ let d : distance_at f' q ≡ distance = ap (distance_at f') is ∙ here in omega (arith, d, limit)
        | inr other ↦ let d = there q other in let m = was.settled (omega (arith, none, ahead)) (omega (arith, near, label)) q held in omega (arith, d, m)
      ];
    }

-- what was reached from an order settled before still is
reached_kept : (s : Kept) (f f' : Search) (order distance far far' n n' i i' : ℕ) → IsPushed s f order distance f'.order_distance.items f'.orders.items → n ≤ n' → i' ≡ i → far' ≡ far → IsWagonReached s f far n i → IsWagonReached s f' far' n' i'
reached_kept s f f' order distance far far' n n' i i' p more is as_far r =
    let x = r.index in
    let before = r.before in
    let within = r.from.within in
    let count = p.count in
    let q : settled_at f' x ≡ settled_at f x = p.before x within in
    let d : distance_at f' (settled_at f x) ≡ distance_at f (settled_at f x) = p.there (settled_at f x) (p.other x within) in
    subst (IsWagonReached s f' far' n') (sym is) (record {
      index = x;
      before = omega (arith, before, more);
      from = record { within = omega (arith, within, count); exact = rw (q, d, as_far) r.from.exact };
    })

-- an order that was led to before, or the one settled last
led_settled : (s : Kept) (f f' : Search) (order distance wagon n x : ℕ) → IsSearch s f n → IsNext s f (next_of order distance wagon) → IsPushed s f order distance f'.order_distance.items f'.orders.items → f'.via.items ≡ f.via.items ++ wagon ∷ [] → HaveSameLabels f f' → 0 < x → x < length f'.orders.items → IsLed s f' x
led_settled s f f' order distance wagon n x h next p vs ls pos l =
    let count = p.count in
    let vias = h.settled.vias in
    elim (cases_eq x (length f.orders.items)) [
      | inl last ↦
          let led = next.led (omega (arith, last)) in
          let w : get_or f'.via.items x 0 ≡ wagon = ap (λ y. get_or y x 0) vs ∙ get_or_push f.via.items wagon 0 x (vias ∙ sym last) in
          let q : settled_at f' x ≡ order = ap (λ y. settled_at f' y) last ∙ p.at_end in
          let label : label_at s f' (get_or f'.via.items x 0) ≡ label_at s f wagon = ap (λ y. label_at s f' y) w ∙ label_same s f f' wagon ls in
          let d : distance_at f' (settled_at f' x) ≡ distance = ap (distance_at f') q ∙ p.here in
          let limit = next.limit in
          let at = led.2 in
          record {
            wagon = subst (λ (y : ℕ). y < wagon_count s.table) (sym w) led.0;
            held = ap (order_at s.order_of) w ∙ led.1 ∙ ap (λ y. Some y) (sym q);
            as_far = label ∙ at ∙ sym d;
            reached = reached_kept s f f' order distance (label_at s f wagon) _ (length f.orders.items) x wagon _ p (omega (arith, last)) w (d ∙ sym at) (h.labels wagon led.0 (omega (arith, at, limit)));
          }
      | inr other ↦
          let lx : x < length f.orders.items = omega (arith, other, count) in
          let led = h.settled.led x pos lx in
          let w : get_or f'.via.items x 0 ≡ get_or f.via.items x 0 = ap (λ y. get_or y x 0) vs ∙ get_or_append_left f.via.items (wagon ∷ []) 0 x (omega (arith, lx, vias)) in
          let q : settled_at f' x ≡ settled_at f x = p.before x lx in
          let label : label_at s f' (get_or f'.via.items x 0) ≡ label_at s f (get_or f.via.items x 0) = ap (λ y. label_at s f' y) w ∙ label_same s f f' (get_or f.via.items x 0) ls in
          let d : distance_at f' (settled_at f' x) ≡ distance_at f (settled_at f x) = ap (distance_at f') q ∙ p.there (settled_at f x) (p.other x lx) in
          record {
            wagon = subst (λ (y : ℕ). y < wagon_count s.table) (sym w) led.wagon;
            held = ap (order_at s.order_of) w ∙ led.held ∙ ap (λ y. Some y) (sym q);
            as_far = label ∙ led.as_far ∙ sym d;
            reached = reached_kept s f f' order distance (distance_at f (settled_at f x)) _ x x (get_or f.via.items x 0) _ p (omega arith) w d led.reached;
          }
    ]

-- an index among those settled is that of one settled before, or the last
at_index : (P : ℕ → ℕ → Type 0) (s : Kept) (f : Search) (order distance : ℕ) (distances orders : List ℕ) → IsPushed s f order distance distances orders → ((x : ℕ) → x < length f.orders.items → P x (settled_at f x)) → P (length f.orders.items) order → (x : ℕ) → x < length orders → P x (get_or orders x 0)
at_index P s f order distance distances orders p before last x l =
    let count = p.count in
    elim (cases_eq x (length f.orders.items)) [
      | inl same ↦ subst (λ (y : ℕ). P y (get_or orders y 0)) (sym same) (subst (P (length f.orders.items)) (sym p.at_end) last)
      | inr other ↦ let lx : x < length f.orders.items = omega (arith, other, count) in subst (P x) (sym (p.before x lx)) (before x lx)
    ]

settled_more : (s : Kept) (f f' : Search) (order distance wagon n : ℕ) → IsSearch s f n → IsNext s f (next_of order distance wagon) → IsPushed s f order distance f'.order_distance.items f'.orders.items → f'.order_distance.items ≡ set f.order_distance.items order distance → f'.via.items ≡ f.via.items ++ wagon ∷ [] → HaveSameLabels f f' → f'.front ≡ distance → AreSettled s f'
settled_more s f f' order distance wagon n h next p ds vs ls front =
    let count = p.count in
    let vias = h.settled.vias in
    let room = h.room.distances in
    let lo = next.within in
    let limit = next.limit in
    record {
      vias = ap length vs ∙ length_push f.via.items wagon ∙ ap (λ y. y + 1) vias ∙ sym count;
      count = count ∙ ap (λ y. y + 1) h.settled.count ∙ sym (near_count_more f.order_distance.items f'.order_distance.items order distance (omega arith) ds (omega (arith, limit)) next.far);
      order = at_index (λ x q. q < order_count s.table) s f order distance _ f'.orders.items p h.settled.order lo;
      near = at_index (λ x q. distance_at f' q ≤ f'.front) s f order distance _ f'.orders.items p
          (λ x lx. let d = p.there (settled_at f x) (p.other x lx) in let was = h.settled.near x lx in let f0 = next.front in omega (arith, d, was, f0, front))
          (let d = p.here in omega (arith, d, front));
      last = λ x lx.
          let same : x ≡ length f.orders.items = omega (arith, lx, count) in
          ap (distance_at f') (ap (settled_at f') same ∙ p.at_end) ∙ p.here ∙ sym front;
      listed = λ q lq near. elim (cases_eq q order) [
        | inl same ↦ record { index = length f.orders.items; within = omega (arith, count); is = p.at_end ∙ sym same }
        | inr other ↦
            let d = p.there q other in
            let at = h.settled.listed q lq (omega (arith, d, near)) in
            let within = at.within in
            record { index = at.index; within = omega (arith, within, count); is = p.before at.index within ∙ at.is }
      ];
      apart = λ x y lt ly same.
          let lx : x < length f.orders.items = omega (arith, lt, ly, count) in
          elim (cases_eq y (length f.orders.items)) [
            | inl last ↦ p.other x lx (sym (p.before x lx) ∙ same ∙ ap (settled_at f') last ∙ p.at_end)
            | inr other ↦ let my : y < length f.orders.items = omega (arith, other, ly, count) in h.settled.apart x y lt my (sym (p.before x lx) ∙ same ∙ p.before y my)
          ];
      led = λ x pos lx. led_settled s f f' order distance wagon n x h next p vs ls pos lx;
    }

-- the nearest of the ends before and that at the order settled last
data Chosen (f : Search) (end r : End) : Type 0 where
  chosen : r ≡ end → end.distance < f.end.distance → Chosen f end r
  stays : r ≡ f.end → f.end.distance ≤ end.distance → Chosen f end r

cond_true : (b : Bool) (x y : End) → b ≡ true → cond b x y ≡ x
cond_true true x y e = refl
cond_true false x y e = cc

cond_false : (b : Bool) (x y : End) → b ≡ false → cond b x y ≡ y
cond_false true x y e = cc
cond_false false x y e = refl

below_true : (a b : ℕ) → a < b → ltb a b ≡ true
below_true a b l = grind (arith, nat_tests, l)

below_false : (a b : ℕ) → b ≤ a → ltb a b ≡ false
below_false a b l = grind (arith, nat_tests, l)

chosen_end : (f : Search) (end : End) → Chosen f end (end_with f end)
chosen_end f end =
    elim (cases_lt end.distance f.end.distance) [
      | inl less ↦ chosen (cond_true (ltb end.distance f.end.distance) end f.end (below_true end.distance f.end.distance less)) less
      | inr more ↦ stays (cond_false (ltb end.distance f.end.distance) end f.end (below_false end.distance f.end.distance more)) more
    ]

end_settled : (s : Kept) (f f' : Search) (order distance wagon n : ℕ) (end : End) → IsKept s → IsSearch s f n → IsNext s f (next_of order distance wagon) → IsPushed s f order distance f'.order_distance.items f'.orders.items → f'.front ≡ distance → IsEndFound s order distance f.end.distance end → end.index ≡ length f.orders.items → Chosen f end f'.end → IsNearestEnd s f'
end_settled s f f' order distance wagon n end k h next p front found index (chosen same less) =
    let count = p.count in
    let here = p.here in
    let far : f'.end.distance ≡ end.distance = ap (λ (r : End). r.distance) same in
    let at : f'.end.index ≡ length f.orders.items = ap (λ (r : End). r.index) same ∙ index in
    let penalty = penalty_limit s.table order k.table in
    let beyond = found.beyond in
    let refusal = found.refusal in
    let q : settled_at f' f'.end.index ≡ order = ap (settled_at f') at ∙ p.at_end in
    let d : distance_at f' (settled_at f' f'.end.index) ≡ distance = ap (distance_at f') q ∙ here in
    let is : IsEndAt s order distance f'.end.distance f'.end.wagon = subst (λ (r : End). IsEndAt s order distance r.distance r.wagon) (sym same) (found.is less) in
    record {
      beyond = omega (arith, front, far, beyond);
      none = λ e. absurd (omega (arith, e, count));
      limit = λ some. elim (cases_eq (length f.orders.items) 0) [
        | inl none ↦ let z = next.first none in omega (arith, z, far, refusal, penalty)
        | inr other ↦ let below = h.end.limit (omega (arith, other)) in omega (arith, far, less, below)
      ];
      within = λ some. omega (arith, at, count);
      is = λ some. rw (d, q) is;
      refusals = at_index (λ x q. f'.end.distance + get_or s.v q 0 ≤ distance_at f' q + penalty_at s.table q) s f order distance _ f'.orders.items p
          (λ x lx. let d = p.there (settled_at f x) (p.other x lx) in let was = h.end.refusals x lx in omega (arith, d, was, far, less))
          (omega (arith, here, far, refusal));
      wagons = λ x i lx li none. at_index (λ x q. f'.end.distance + get_or s.v q 0 ≤ reach s f' i q) s f order distance _ f'.orders.items p
          (λ x lx. let d = p.there (settled_at f x) (p.other x lx) in let was = h.end.wagons x i lx li none in omega (arith, d, was, far, less))
          (let least = found.wagons i li none in omega (arith, here, far, least)) x lx;
    }
end_settled s f f' order distance wagon n end k h next p front found index (stays same more) =
    let count = p.count in
    let here = p.here in
    let far : f'.end.distance ≡ f.end.distance = ap (λ (r : End). r.distance) same in
    let at : f'.end.index ≡ f.end.index = ap (λ (r : End). r.index) same in
    let nearer = next.end in
    let penalty = penalty_limit s.table order k.table in
    let refusal = found.refusal in
    let some : 0 < length f.orders.items = elim (cases_eq (length f.orders.items) 0) [
      | inl none ↦ absurd (let z = next.first none in let top = h.end.none none in omega (arith, z, top, more, refusal, penalty))
      | inr other ↦ omega (arith, other)
    ] in
    let within = h.end.within some in
    let q : settled_at f' f'.end.index ≡ settled_at f f.end.index = ap (settled_at f') at ∙ p.before f.end.index within in
    let d : distance_at f' (settled_at f' f'.end.index) ≡ distance_at f (settled_at f f.end.index) = ap (distance_at f') q ∙ p.there (settled_at f f.end.index) (p.other f.end.index within) in
    let is : IsEndAt s (settled_at f f.end.index) (distance_at f (settled_at f f.end.index)) f'.end.distance f'.end.wagon = subst (λ (r : End). IsEndAt s (settled_at f f.end.index) (distance_at f (settled_at f f.end.index)) r.distance r.wagon) (sym same) (h.end.is some) in
    record {
      beyond = omega (arith, front, far, nearer);
      none = λ e. absurd (omega (arith, e, count));
      limit = λ _. let below = h.end.limit some in omega (arith, far, below);
      within = λ _. omega (arith, at, within, count);
      is = λ _. rw (d, q) is;
      refusals = at_index (λ x q. f'.end.distance + get_or s.v q 0 ≤ distance_at f' q + penalty_at s.table q) s f order distance _ f'.orders.items p
          (λ x lx. let d = p.there (settled_at f x) (p.other x lx) in let was = h.end.refusals x lx in omega (arith, d, was, far))
          (omega (arith, here, refusal, more, far));
      wagons = λ x i lx li none. at_index (λ x q. f'.end.distance + get_or s.v q 0 ≤ reach s f' i q) s f order distance _ f'.orders.items p
          (λ x lx. let d = p.there (settled_at f x) (p.other x lx) in let was = h.end.wagons x i lx li none in omega (arith, d, was, far))
          (let least = found.wagons i li none in omega (arith, here, least, more, far)) x lx;
    }

-- an end that is chosen is no farther than before
end_lower : (f : Search) (end r : End) → Chosen f end r → r.distance ≤ f.end.distance
end_lower f end r (chosen same less) = let far = ap (λ (e : End). e.distance) same in omega (arith, far, less)
end_lower f end r (stays same more) = let far = ap (λ (e : End). e.distance) same in omega (arith, far)

-- a walk stands where it stood
walking_settled : (s : Kept) (f f' : Search) (order distance g wagon : ℕ) → distance < 4294967295 → distance_at f' order ≡ distance → ((k : ℕ) → k ≢ order → distance_at f' k ≡ distance_at f k) → IsWalking s f g wagon → IsWalking s f' g wagon
walking_settled s f f' order distance g wagon near here there w = record {
  settled = λ i k l group before held. elim (cases_eq k order) [
    | inl same ↦ let d : distance_at f' k ≡ distance = ap (distance_at f') same ∙ here in omega (arith, d, near)
    | inr other ↦ let d = there k other in let m = w.settled i k l group before held in omega (arith, d, m)
  ];
  is = w.is;
}

-- an order is settled: the search goes on with it
pub search_settled : (s : Kept) (f : Search) (order distance wagon n : ℕ) (end new_end : End) (distances orders via : Vec ℕ Global) → IsKept s → IsSearch s f n → n ≤ length f.orders.items → IsNext s f (next_of order distance wagon) → IsEndFound s order distance f.end.distance end → end.index ≡ length f.orders.items → IsSettled f order distance wagon distances.items orders.items via.items → vec_capacity orders ≡ vec_capacity f.orders → vec_capacity via ≡ vec_capacity f.via → new_end ≡ end_with f end → IsSearch s (settled_search f distance new_end distances orders via) n
search_settled s f order distance wagon n end new_end distances orders via k h below next found index r co cv re =
    let f' = settled_search f distance new_end distances orders via in
    let p = pushed s f order distance wagon distances.items orders.items via.items n h next r in
    let count = p.count in
    let choice : Chosen f end new_end = subst (Chosen f end) (sym re) (chosen_end f end) in
    let lower = end_lower f end new_end choice in
    let same : HaveSameLabels f f' = record { ahead = refl; closed = refl } in
    record {
      room = record {
        ahead = h.room.ahead;
        closed = h.room.closed;
        cursors = h.room.cursors;
        distances = written_length f.order_distance.items distances.items order distance r.distances_are ∙ h.room.distances;
        orders = co ∙ h.room.orders;
        vias = cv ∙ h.room.vias;
      };
      span = h.span;
      labels = λ i l near. reached_kept s f f' order distance (label_at s f i) _ (length f.orders.items) _ i i p (omega (arith, count)) refl refl (h.labels i l near);
      relaxed = λ x lx i l.
          let within : x < length f.orders.items = omega (arith, lx, below) in
          let q : get_or orders.items x 0 ≡ settled_at f x = p.before x within in
          let d : get_or distances.items (settled_at f x) 0 ≡ distance_at f (settled_at f x) = p.there (settled_at f x) (p.other x within) in
          let was = h.relaxed x lx i l in
          rw q (omega (arith, was, d, lower));
      known = λ i l. known_settled s f f' order distance wagon n i k h next l refl same p.here p.there;
      walked = λ g l. walking_settled s f f' order distance g (get_or f.cursor.items g 0) (let limit = next.limit in omega (arith, limit)) p.here p.there (h.walked g l);
      settled = settled_more s f f' order distance wagon n h next p r.distances_are r.via_are same refl;
      end = end_settled s f f' order distance wagon n end k h next p refl found index choice;
    }

-- there is room for one more order
pub settled_room : (s : Kept) (f : Search) (order distance wagon n : ℕ) → IsSearch s f n → IsNext s f (next_of order distance wagon) → length f.orders.items < order_count s.table
settled_room s f order distance wagon n h next =
    let below = near_count_below f.order_distance.items order (let room = h.room.distances in let l = next.within in omega (arith, room, l)) next.far in
    let count = h.settled.count in
    let room = h.room.distances in
    omega (arith, below, count, room)
