-- Where the way back begins.
use Rattle.std.proofs.Common.{◌≡◌, ◌≢◌, ◌<◌, ℕ, Option, Some, None, List, length, get_or, min, sym, ◌∙◌, ap, arith, inl, inr, subst}
use Rattle.assignment.specs.declared.search.Search.{Search}
use Rattle.assignment.specs.inner.State.{Kept, IsEndAt, order_at}
use Rattle.assignment.specs.inner.Search.{IsReachedFrom, IsShortestPath, distance_at, label_at, settled_at}
use Rattle.assignment.specs.inner.Path.{AreHandedOn, IsOnPath, IsOnPathTo, IsOnWay}
use Rattle.assignment.proofs.HandOn.{some_same}

-- the wagon at the end, which has no order, is reached from the order there
pub end_reached : (s : Kept) (f : Search) (w : ℕ) → IsShortestPath s f → f.end.wagon ≡ Some w → IsReachedFrom s f (min (label_at s f w) f.end.distance) w f.end.index
end_reached s f w h is =
    let end : IsEndAt s (settled_at f f.end.index) (distance_at f (settled_at f f.end.index)) f.end.distance (Some w) = subst (IsEndAt s (settled_at f f.end.index) (distance_at f (settled_at f f.end.index)) f.end.distance) is (h.search.end.is h.some) in
    let far = ((h.search.known w end.0).idle end.1).1 in
    let limit = h.search.end.limit h.some in
    let exact = end.2 in
    record { within = h.search.end.within h.some; exact = omega (arith, far, limit, exact) }

-- the wagon that led to an order led to none before
pub via_apart : (s : Kept) (f : Search) (x y wagon : ℕ) → IsShortestPath s f → 0 < x → x < y → y < length f.orders.items → wagon ≡ get_or f.via.items y 0 → get_or f.via.items x 0 ≢ wagon
via_apart s f x y wagon h pos less l is same =
    let settled = h.search.settled in
    let one = (settled.led x pos (omega (arith, less, l))).held in
    let other = (settled.led y (omega (arith, pos, less)) l).held in
    settled.apart x y less l (some_same (settled_at f x) (settled_at f y) (order_at s.order_of wagon) (ap (order_at s.order_of) (sym same) ∙ one) (ap (order_at s.order_of) is ∙ other))

on_path_to : (f : Search) (end : Option ℕ) (i : ℕ) → end ≡ None → ((x : ℕ) × (0 < x) × (x < length f.orders.items) × (get_or f.via.items x 0 ≡ i)) → IsOnPathTo f end i
on_path_to f None i is p = p
on_path_to f (Some w) i is p = absurd (let e = is in cc)

way_to_path : (f : Search) (index i : ℕ) → f.end.wagon ≡ None → 0 < index → index < length f.orders.items → IsOnWay f (get_or f.via.items index 0) i → IsOnPath f i
way_to_path f index i is pos l (inl same) = on_path_to f f.end.wagon i is (index, pos, l, sym same)
way_to_path f index i is pos l (inr p) = on_path_to f f.end.wagon i is p

-- a way that begins at the wagon that led to the order that refuses a unit
pub handed_from : (s : Kept) (f : Search) (new : List (Option ℕ)) (index wagon : ℕ) → f.end.wagon ≡ None → 0 < index → index < length f.orders.items → wagon ≡ get_or f.via.items index 0 → AreHandedOn s f (IsOnWay f wagon) new → AreHandedOn s f (IsOnPath f) new
handed_from s f new index wagon is pos l via handed i = elim (handed i) [
  | inl same ↦ inl same
  | inr moved ↦ inr (way_to_path f index i is pos l (subst (λ (w : ℕ). IsOnWay f w i) via moved.0), moved.1)
]
