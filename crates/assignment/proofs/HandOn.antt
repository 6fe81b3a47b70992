use Rattle.std.proofs.Common.{◌≡◌, ◌≢◌, ◌+◌, ◌<◌, ◌≤◌, ◌⊎◌, ℕ, List, Option, Some, None, cond, length, get_or, min, set, refl, sym, ◌∙◌, ap, arith, inl, inr, subst}
use Rattle.std.proofs.lemmas.Bool.{cases_eq}
use Rattle.std.proofs.lemmas.List.{get_or_read}
use Rattle.std.proofs.lemmas.List.Sums.{sum_by-set}
use Rattle.assignment.specs.declared.search.Search.{Search}
use Rattle.assignment.specs.declared.state.State.{State}
use Rattle.assignment.specs.inner.State.{Kept, IsKept, IsState, kept, order_at, orders_of, served, has_order}
use Rattle.assignment.specs.inner.Search.{IsSearch, IsSearchOf, IsShortestPath, IsWagonReached, IsReachedFrom, distance_at, label_at, settled_at}
use Rattle.assignment.specs.inner.Path.{IsGiven, IsOnWay, one_if}
use Rattle.assignment.proofs.Numbers.{orders_set}
use Rattle.assignment.proofs.Pairs.{one_if-test}
use Rattle.assignment.proofs.Writes.{same_at, other_at, written_length}

-- how many wagons an order has after one wagon changes its order
pub served-set : (k : ℕ) (h h' : List (Option ℕ)) (i : ℕ) (o : Option ℕ) → i < length h → h' ≡ set h i o → served k h' + one_if k (order_at h i) ≡ served k h + one_if k o
served-set k h h' i o l e =
    let s = sum_by-set (λ (q : Option ℕ). cond (has_order k q) 1 0) h i o None l in
    let a = one_if-test k (order_at h i) in
    let b = one_if-test k o in
    let d : served k h' ≡ served k (set h i o) = ap (served k) e in
    omega (arith, s, a, b, d)

-- The way is walked back to the wagon in hand. It was reached from the order at `index`, and it is none of the wagons
-- that led to an order up to there, which have their orders still.
pub record IsHandingOn (s : Kept) (f : Search) (h : List (Option ℕ)) (first wagon index : ℕ) : Type 0 where
  pub wagons : length h ≡ length s.order_of
  pub in_hand : wagon < length s.order_of
  pub from : IsReachedFrom s f (min (label_at s f wagon) f.end.distance) wagon index
  pub on_way : IsOnWay f first wagon
  pub given : (wagon ≡ first) ⊎ IsGiven s f h first
  pub apart : (x : ℕ) → 0 < x → x ≤ index → get_or f.via.items x 0 ≢ wagon
  pub held : (x : ℕ) → 0 < x → x ≤ index → get_or h (get_or f.via.items x 0) None ≡ Some (get_or f.orders.items x 0)
  pub handed_on : (i : ℕ) → (order_at h i ≡ order_at s.order_of i) ⊎ (IsOnWay f first i × IsGiven s f h i)
  pub count : (k : ℕ) → served k h + one_if k (order_at s.order_of first) ≡ served k s.order_of + one_if k (order_at h wagon)

-- the way begins at its end
pub handing_none : (s : Kept) (f : Search) (wagon index : ℕ) → IsShortestPath s f → wagon < length s.order_of → ((x : ℕ) → 0 < x → x ≤ index → get_or f.via.items x 0 ≢ wagon) → IsReachedFrom s f (min (label_at s f wagon) f.end.distance) wagon index → IsHandingOn s f s.order_of wagon wagon index
handing_none s f wagon index h inside apart from = record {
  wagons = refl;
  in_hand = inside;
  from = from;
  on_way = inl refl;
  given = inl refl;
  apart = apart;
  held = λ x p le. (h.search.settled.led x p (let within = from.within in omega (arith, le, within))).held;
  handed_on = λ i. inl refl;
  count = λ k. refl;
}

-- the wagon that led to an order was reached at the order's distance, which is its own
pub via_reached : (s : Kept) (f : Search) (x y wagon : ℕ) → IsShortestPath s f → 0 < x → x < length f.orders.items → wagon ≡ get_or f.via.items x 0 → IsReachedFrom s f (distance_at f (settled_at f x)) wagon y → IsReachedFrom s f (min (label_at s f wagon) f.end.distance) wagon y
via_reached s f x y wagon h pos lx is r =
    let far = (h.search.settled.led x pos lx).as_far in
    let near = h.search.settled.near x lx in
    let front = h.search.end.beyond in
    let label : label_at s f wagon ≡ label_at s f (get_or f.via.items x 0) = ap (label_at s f) is in
    let same : min (label_at s f wagon) f.end.distance ≡ distance_at f (settled_at f x) = omega (arith, far, near, front, label) in
    subst (λ (d : ℕ). IsReachedFrom s f d wagon y) (sym same) r

pub some_same : (a b : ℕ) (o : Option ℕ) → o ≡ Some a → o ≡ Some b → a ≡ b
some_same a b o p q = cc

-- what holds of the wagons' orders once the wagon in hand has the order that it was reached from
handed_now : (s : Kept) (f : Search) (h h' : List (Option ℕ)) (first wagon index : ℕ) → IsHandingOn s f h first wagon index → h' ≡ set h wagon (Some (get_or f.orders.items index 0)) → (i : ℕ) → (order_at h' i ≡ order_at s.order_of i) ⊎ (IsOnWay f first i × IsGiven s f h' i)
handed_now s f h h' first wagon index g e i =
    elim (cases_eq i wagon) [
      | inl same ↦
          let len = g.wagons in
          let inside = g.in_hand in
          let here : order_at h' wagon ≡ Some (get_or f.orders.items index 0) = same_at h h' wagon _ None (omega (arith, len, inside)) e in
          let given : IsGiven s f h' wagon = record { index = index; from = g.from; order = here } in
          inr (subst (λ (x : ℕ). IsOnWay f first x) (sym same) g.on_way, subst (IsGiven s f h') (sym same) given)
      | inr other ↦
          let there : order_at h' i ≡ order_at h i = other_at h h' wagon _ None i e other in
          elim (g.handed_on i) [
            | inl was ↦ inl (there ∙ was)
            | inr new ↦ inr (new.0, record { index = new.1.index; from = new.1.from; order = there ∙ new.1.order })
          ]
    ]

-- the wagon that ends the way has an order then
given_now : (s : Kept) (f : Search) (h h' : List (Option ℕ)) (first wagon index : ℕ) → IsHandingOn s f h first wagon index → h' ≡ set h wagon (Some (get_or f.orders.items index 0)) → IsGiven s f h' first
given_now s f h h' first wagon index g e =
    let len = g.wagons in
    let inside = g.in_hand in
    let here : order_at h' wagon ≡ Some (get_or f.orders.items index 0) = same_at h h' wagon _ None (omega (arith, len, inside)) e in
    let given : IsGiven s f h' wagon = record { index = index; from = g.from; order = here } in
    elim (cases_eq first wagon) [
      | inl same ↦ subst (IsGiven s f h') (sym same) given
      | inr other ↦ elim g.given [
        | inl same ↦ absurd (other (sym same))
        | inr was ↦ record { index = was.index; from = was.from; order = other_at h h' wagon _ None first e other ∙ was.order }
      ]
    ]

count_now : (s : Kept) (f : Search) (h h' : List (Option ℕ)) (first wagon index : ℕ) → IsHandingOn s f h first wagon index → h' ≡ set h wagon (Some (get_or f.orders.items index 0)) → (k : ℕ) → served k h' + one_if k (order_at s.order_of first) ≡ served k s.order_of + one_if k (Some (get_or f.orders.items index 0))
count_now s f h h' first wagon index g e k =
    let len = g.wagons in
    let inside = g.in_hand in
    let step = served-set k h h' wagon (Some (get_or f.orders.items index 0)) (omega (arith, len, inside)) e in
    let was = g.count k in
    omega (arith, step, was)

pub handing_more : (s : Kept) (f : Search) (h h' : List (Option ℕ)) (first wagon index wagon' index' : ℕ) → IsKept s → IsShortestPath s f → IsHandingOn s f h first wagon index → 0 < index → h' ≡ set h wagon (Some (get_or f.orders.items index 0)) → wagon' ≡ get_or f.via.items index 0 → index' < index → IsReachedFrom s f (distance_at f (settled_at f index)) wagon' index' → IsHandingOn s f h' first wagon' index'
handing_more s f h h' first wagon index wagon' index' k path g pos e we lower from =
    let search = path.search in
    let len = g.wagons in
    let within = g.from.within in
    let led = search.settled.led index pos within in
    let held = k.held.wagons in
    let inside : wagon' < length s.order_of = (let w = led.wagon in omega (arith, w, we, held)) in
    let keeps : (x : ℕ) → 0 < x → x ≤ index → get_or h' (get_or f.via.items x 0) None ≡ Some (get_or f.orders.items x 0) = λ x p le. other_at h h' wagon _ None (get_or f.via.items x 0) e (g.apart x p le) ∙ g.held x p le in
    let here : get_or h' wagon' None ≡ Some (get_or f.orders.items index 0) = ap (λ x. get_or h' x None) we ∙ keeps index pos (omega arith) in
    record {
      wagons = written_length h h' wagon _ e ∙ len;
      in_hand = inside;
      from = via_reached s f index index' wagon' path pos within we from;
      on_way = inr (index, pos, within, sym we);
      given = inr (given_now s f h h' first wagon index g e);
      apart = λ x p le same. search.settled.apart x index (omega (arith, le, lower)) within (some_same (get_or f.orders.items x 0) (get_or f.orders.items index 0) (get_or h' wagon' None) (ap (λ y. get_or h' y None) (sym same) ∙ keeps x p (omega (arith, le, lower))) here);
      held = λ x p le. keeps x p (omega (arith, le, lower));
      handed_on = handed_now s f h h' first wagon index g e;
      count = λ q. count_now s f h h' first wagon index g e q ∙ ap (λ o. served q s.order_of + one_if q o) (sym here);
    }

-- an order that is read at an index, and written for a wagon
pub order_written : (s : Kept) (f : Search) (n : ℕ) (numbers : List ℕ) (wagon index order : ℕ) → IsKept s → IsSearch s f n → index < length f.orders.items → order ≡ get_or f.orders.items index order
    → orders_of (set numbers wagon order) ≡ set (orders_of numbers) wagon (Some (get_or f.orders.items index 0))
order_written s f n numbers wagon index order keeps search within read =
    let is : order ≡ get_or f.orders.items index 0 = get_or_read f.orders.items index order within read 0 in
    let number = search.settled.order index within in
    let few = keeps.table.orders in
    orders_set numbers wagon order (omega (arith, is, number, few)) ∙ ap (λ y. set (orders_of numbers) wagon (Some y)) is

-- all of the way has its orders
pub record IsHandedOn (s : Kept) (f : Search) (h : List (Option ℕ)) (first : ℕ) : Type 0 where
  pub wagons : length h ≡ length s.order_of
  pub given : IsGiven s f h first
  pub handed_on : (i : ℕ) → (order_at h i ≡ order_at s.order_of i) ⊎ (IsOnWay f first i × IsGiven s f h i)
  pub count : (k : ℕ) → served k h + one_if k (order_at s.order_of first) ≡ served k s.order_of + one_if k (Some (get_or f.orders.items 0 0))

-- the wagon that is left gets the first order
pub handing_all : (s : Kept) (f : Search) (n : ℕ) (numbers : List ℕ) (first wagon index order : ℕ) → IsKept s → IsSearch s f n → IsHandingOn s f (orders_of numbers) first wagon index → index ≡ 0
    → order ≡ get_or f.orders.items 0 order → IsHandedOn s f (orders_of (set numbers wagon order)) first
handing_all s f n numbers first wagon index order keeps search g zero_index read =
    let h = orders_of numbers in
    let within : 0 < length f.orders.items = subst (λ (x : ℕ). x < length f.orders.items) zero_index g.from.within in
    let e = order_written s f n numbers wagon 0 order keeps search within read in
    let e' : orders_of (set numbers wagon order) ≡ set h wagon (Some (get_or f.orders.items index 0)) = e ∙ ap (λ x. set h wagon (Some (get_or f.orders.items x 0))) (sym zero_index) in
    record {
      wagons = written_length h _ wagon _ e ∙ g.wagons;
      given = given_now s f h _ first wagon index g e';
      handed_on = handed_now s f h _ first wagon index g e';
      count = λ k. count_now s f h _ first wagon index g e' k ∙ ap (λ x. served k s.order_of + one_if k (Some (get_or f.orders.items x 0))) zero_index;
    }

-- another list of the wagons' orders changes nothing of the distances
pub search_of : (state state' : State) (f : Search) → state' ≡ record state { order_of = state'.order_of } → IsSearchOf state f → IsSearchOf state' f
search_of state state' f same h = subst (λ x. IsSearchOf x f) (sym same) (record { table = h.table; groups = h.groups; costs = h.costs; group_prices = h.group_prices; orders = h.orders; room = record { ahead = h.room.ahead; closed = h.room.closed; cursors = h.room.cursors; distances = h.room.distances; orders = h.room.orders; vias = h.room.vias }; vias = h.vias; settled = h.settled })

pub search_of_state : (state : State) (f : Search) → IsState state → IsShortestPath (kept state) f → IsSearchOf state f
search_of_state state f k h = record { table = k.keeps.table; groups = k.groups; costs = k.costs; group_prices = k.group_prices; orders = k.keeps.priced.orders; room = h.search.room; vias = h.search.settled.vias; settled = h.search.settled.order }

pub reached_then : (state state' : State) (f : Search) (far n i : ℕ) → state' ≡ record state { order_of = state'.order_of } → IsWagonReached (kept state) f far n i → IsWagonReached (kept state') f far n i
reached_then state state' f far n i same r = subst (λ x. IsWagonReached (kept x) f far n i) (sym same) (record { index = r.index; before = r.before; from = record { within = r.from.within; exact = r.from.exact } })

pub reached_before : (state state' : State) (f : Search) (far i x : ℕ) → state' ≡ record state { order_of = state'.order_of } → IsReachedFrom (kept state') f far i x → IsReachedFrom (kept state) f far i x
reached_before state state' f far i x same r =
    let there : IsReachedFrom (kept (record state { order_of = state'.order_of })) f far i x = subst (λ y. IsReachedFrom (kept y) f far i x) same r in
    record { within = there.within; exact = there.exact }
