-- A group is closed once the orders of all its wagons are settled.
use Rattle.std.proofs.Common.{◌≡◌, ◌+◌, ◌<◌, ◌≤◌, ℕ, Option, Some, None, Vec, length, get_or, set, min, refl, sym, ◌∙◌, ap, arith, inl, inr, subst}
use Rattle.std.specs.declared.alloc.Global.{Global}
use Rattle.std.proofs.lemmas.Bool.{cases_eq, cases_lt}
use Rattle.cost_table.specs.Table.{cost_at, wagon_count}
use Rattle.assignment.specs.declared.passes.Span.{Span}
use Rattle.assignment.specs.declared.search.Search.{Search}
use Rattle.assignment.specs.inner.Costs.{cell_cost}
use Rattle.assignment.specs.inner.Passes.{IsSpanOf}
use Rattle.assignment.specs.inner.State.{Kept, IsKept, order_at}
use Rattle.assignment.specs.inner.Search.{IsClosable, IsKnown, IsLedFrom, IsSearch, IsWagonReached, IsWalking, ahead_of, closed_of, group_at, label_at, label_of, settled_at, distance_at}
use Rattle.assignment.proofs.Labels.{label_closed}
use Rattle.assignment.proofs.Limits.{held_order}
use Rattle.assignment.proofs.Regrouped.{end_regrouped, reached_regrouped, settled_regrouped, walking_regrouped}
use Rattle.assignment.proofs.Spans.{span_closed}
use Rattle.assignment.proofs.Writes.{same_at, other_at, written_length}

-- the group is closed at the front
pub record IsClosed (f : Search) (g : ℕ) (f' : Search) : Type 0 where
  pub ahead : f'.ahead.items ≡ set f.ahead.items g 0
  pub closed : f'.closed_at.items ≡ set f.closed_at.items g f.front
  pub lengths : (g < length f.ahead.items) × (g < length f.closed_at.items)
  pub distances : f'.order_distance ≡ f.order_distance
  pub front : f'.front ≡ f.front

-- the wagons of the group were reached at the front
record IsAtFront (s : Kept) (f : Search) (i : ℕ) : Type 0 where
  front : f.front ≤ label_at s f i
  reached : IsWagonReached s f f.front (length f.orders.items) i

at_front : (s : Kept) (f : Search) (n i : ℕ) (o : Option ℕ) → IsKept s → IsSearch s f n → length f.orders.items ≤ n + 1 → 0 < length f.orders.items → f.front < f.end.distance → i < wagon_count s.table → order_at s.order_of i ≡ o → (o ≡ None → ⊥) → ((k : ℕ) → o ≡ Some k → distance_at f k < 4294967295) → 0 < ahead_of f (group_at s i) → IsAtFront s f i
at_front s f n i None k h long some_settled before l is some closable leads = absurd (some refl)
at_front s f n i (Some q) k h long some_settled before l is some closable leads =
    let at = h.settled.listed q (held_order s i q k is) (closable q refl) in
    let within = at.within in
    let tight = k.held.tight i q is in
    let cost : cell_cost (cost_at s.table i q) ≡ tight.cost = ap cell_cost tight.allowed in
    let e = tight.tight in
    let front = (h.known i l).front leads in
    let below = h.settled.near at.index at.within in
    let limit = h.end.limit some_settled in
    elim (cases_lt at.index n) [
      | inl scanned ↦
          let relaxed : min (label_at s f i) f.end.distance + get_or s.v q 0 ≤ distance_at f q + cell_cost (cost_at s.table i q) + get_or s.u i 0 = subst (λ (y : ℕ). min (label_at s f i) f.end.distance + get_or s.v y 0 ≤ distance_at f y + cell_cost (cost_at s.table i y) + get_or s.u i 0) at.is (h.relaxed at.index scanned i l) in
          let d : distance_at f (settled_at f at.index) ≡ distance_at f q = ap (distance_at f) at.is in
          let same : label_at s f i ≡ f.front = omega (arith, relaxed, cost, e, below, d, before, front) in
          record { front = front; reached = subst (λ (x : ℕ). IsWagonReached s f x (length f.orders.items) i) same (h.labels i l (omega (arith, same, before, limit))) }
      | inr last ↦
          let far = h.settled.last at.index (omega (arith, last, long, within)) in
          let reached : f.front + get_or s.v q 0 ≡ f.front + cell_cost (cost_at s.table i q) + get_or s.u i 0 = omega (arith, cost, e) in
          let exact : f.front + get_or s.v (settled_at f at.index) 0 ≡ distance_at f (settled_at f at.index) + cell_cost (cost_at s.table i (settled_at f at.index)) + get_or s.u i 0 = rw (far, at.is) reached in
          record { front = front; reached = record { index = at.index; before = within; from = record { within = within; exact = exact } } }
    ]

-- what a wagon's distance becomes: the front's in the group, and elsewhere what it was
data IsMoved (s : Kept) (f f' : Search) (g i : ℕ) : Type 0 where
  moved : group_at s i ≡ g → ahead_of f' (group_at s i) ≡ 0 → label_at s f' i ≡ f.front → IsMoved s f f' g i
  stays : ahead_of f' (group_at s i) ≡ ahead_of f (group_at s i) → closed_of f' (group_at s i) ≡ closed_of f (group_at s i) → label_at s f' i ≡ label_at s f i → IsMoved s f f' g i

is_moved : (s : Kept) (f f' : Search) (g i : ℕ) → IsClosed f g f' → IsMoved s f f' g i
is_moved s f f' g i c =
    let k = group_at s i in
    elim (cases_eq k g) [
      | inl same ↦
          let a : ahead_of f' k ≡ 0 = ap (ahead_of f') same ∙ same_at f.ahead.items f'.ahead.items g 0 0 c.lengths.0 c.ahead in
          let b : closed_of f' k ≡ f.front = ap (closed_of f') same ∙ same_at f.closed_at.items f'.closed_at.items g f.front 0 c.lengths.1 c.closed in
          moved same a (label_closed (ahead_of f' k) (closed_of f' k) a ∙ b)
      | inr other ↦
          let a : ahead_of f' k ≡ ahead_of f k = other_at f.ahead.items f'.ahead.items g 0 0 k c.ahead other in
          let b : closed_of f' k ≡ closed_of f k = other_at f.closed_at.items f'.closed_at.items g f.front 0 k c.closed other in
          stays a b (ap (λ y. label_of y (closed_of f' k)) a ∙ ap (λ y. label_of (ahead_of f k) y) b)
    ]

known_closed : (s : Kept) (f f' : Search) (g i : ℕ) → IsKnown s f i → (group_at s i ≡ g → IsAtFront s f i) → (group_at s i ≡ g → (q : ℕ) → order_at s.order_of i ≡ Some q → distance_at f q < 4294967295) → (group_at s i ≡ g → order_at s.order_of i ≡ None → ⊥) → f.front ≤ 1000000000 → IsClosed f g f' → IsMoved s f f' g i → IsKnown s f' i
known_closed s f f' g i was at closable some limit c (moved same a label) =
    let front = c.front in
    let d : (q : ℕ) → distance_at f' q ≡ distance_at f q = λ q. ap (λ (y : Vec ℕ Global). get_or y.items q 0) c.distances in
    record {
      held = λ q held. omega (arith, label, front);
      idle = λ none. absurd (some same none);
      skipped = λ far. absurd (omega (arith, far, label, limit));
      front = λ now. absurd (omega (arith, now, a));
      fresh = λ now. absurd (omega (arith, now, a));
      closed = λ _ _. omega (arith, label, front);
      settled = λ _ _ q held. let m = closable same q held in let e = d q in omega (arith, m, e);
    }
known_closed s f f' g i was at closable some limit c (stays a b label) =
    let front = c.front in
    let d : (q : ℕ) → distance_at f' q ≡ distance_at f q = λ q. ap (λ (y : Vec ℕ Global). get_or y.items q 0) c.distances in
    record {
      held = λ q held. let m = was.held q held in let e = d q in omega (arith, m, e, label, front);
      idle = λ none. let m = was.idle none in let x = m.0 in let y = m.1 in (omega (arith, x, a), omega (arith, y, label));
      skipped = λ far. was.skipped (omega (arith, far, label));
      front = λ now. let m = was.front (omega (arith, now, a)) in omega (arith, m, label, front);
      fresh = λ now. let m = was.fresh (omega (arith, now, a)) in omega (arith, m, b);
      closed = λ none near. let m = was.closed (omega (arith, none, a)) (omega (arith, near, label)) in omega (arith, m, label, front);
      settled = λ none near q held. let m = was.settled (omega (arith, none, a)) (omega (arith, near, label)) q held in let e = d q in omega (arith, m, e);
    }

reached_closed : (s : Kept) (f f' : Search) (g n i : ℕ) → IsSearch s f n → (group_at s i ≡ g → IsAtFront s f i) → i < wagon_count s.table → IsMoved s f f' g i → label_at s f' i ≤ 1000000000 → IsWagonReached s f (label_at s f' i) (length f.orders.items) i
reached_closed s f f' g n i h at l (moved same a label) near = subst (λ (x : ℕ). IsWagonReached s f x (length f.orders.items) i) (sym label) (at same).reached
reached_closed s f f' g n i h at l (stays a b label) near = subst (λ (x : ℕ). IsWagonReached s f x (length f.orders.items) i) (sym label) (h.labels i l (omega (arith, near, label)))

-- no wagon is farther than it was
lower_closed : (s : Kept) (f f' : Search) (g i : ℕ) → (group_at s i ≡ g → IsAtFront s f i) → IsMoved s f f' g i → label_at s f' i ≤ label_at s f i
lower_closed s f f' g i at (moved same a label) = let front = (at same).front in omega (arith, front, label)
lower_closed s f f' g i at (stays a b label) = omega (arith, label)

-- a wagon no farther than the front keeps its distance
near_closed : (s : Kept) (f f' : Search) (g i : ℕ) → (group_at s i ≡ g → IsAtFront s f i) → label_at s f i ≤ f.front → IsMoved s f f' g i → label_at s f' i ≡ label_at s f i
near_closed s f f' g i at near (moved same a label) = let front = (at same).front in omega (arith, front, label, near)
near_closed s f f' g i at near (stays a b label) = label

pub search_closed : (s : Kept) (f : Search) (g n : ℕ) (ahead closed : Vec ℕ Global) → IsKept s → IsSearch s f n → length f.orders.items ≤ n + 1 → 0 < length f.orders.items → IsLedFrom s f g → IsClosable s f g → ahead.items ≡ set f.ahead.items g 0 → closed.items ≡ set f.closed_at.items g f.front → IsSearch s (record f { ahead = ahead; closed_at = closed }) n
search_closed s f g n ahead closed k h long some led closable ae ce =
    let f' : Search = record f { ahead = ahead; closed_at = closed } in
    let within = led.within in
    let ra = h.room.ahead in
    let rc = h.room.closed in
    let before = led.before in
    let limit = h.end.limit some in
    let c : IsClosed f g f' = record { ahead = ae; closed = ce; lengths = (omega (arith, within, ra), omega (arith, within, rc)); distances = refl; front = refl } in
    let moves : (i : ℕ) → IsMoved s f f' g i = λ i. is_moved s f f' g i c in
    let has : (i : ℕ) → i < wagon_count s.table → group_at s i ≡ g → order_at s.order_of i ≡ None → ⊥ = λ i l same none. let m = ((h.known i l).idle none).0 in let a : ahead_of f (group_at s i) ≡ ahead_of f g = ap (ahead_of f) same in let leads = led.ahead in omega (arith, m, a, leads) in
    let at : (i : ℕ) → i < wagon_count s.table → group_at s i ≡ g → IsAtFront s f i = λ i l same. at_front s f n i (order_at s.order_of i) k h long some before l refl (has i l same) (λ q held. closable i q l same held) (let a : ahead_of f (group_at s i) ≡ ahead_of f g = ap (ahead_of f) same in let leads = led.ahead in omega (arith, a, leads)) in
    record {
      room = record {
        ahead = written_length f.ahead.items ahead.items g 0 ae ∙ ra;
        closed = written_length f.closed_at.items closed.items g f.front ce ∙ rc;
        cursors = h.room.cursors;
        distances = h.room.distances;
        orders = h.room.orders;
        vias = h.room.vias;
      };
      span = span_closed f.ahead.items ahead.items f.span g h.span (omega (arith, within, ra)) ae;
      labels = λ i l near. reached_regrouped s f ahead f.span closed f.cursor _ _ i (reached_closed s f f' g n i h (at i l) l (moves i) near);
      relaxed = λ x lx i l. let low = lower_closed s f f' g i (at i l) (moves i) in let was = h.relaxed x lx i l in omega (arith, was, low);
      known = λ i l. known_closed s f f' g i (h.known i l) (at i l) (λ same q held. closable i q l same held) (has i l) (omega (arith, before, limit)) c (moves i);
      walked = λ x l. walking_regrouped s f ahead f.span closed f.cursor x _ (h.walked x l);
      settled = settled_regrouped s f ahead f.span closed f.cursor h.settled (λ i l near. near_closed s f f' g i (at i l) near (moves i));
      end = end_regrouped s f ahead f.span closed f.cursor h.end;
    }

-- A walk comes to another wagon, or the span gets narrower: nothing else changes.
pub search_moved : (s : Kept) (f : Search) (n : ℕ) (span : Span) (cursor : Vec ℕ Global) → IsSearch s f n → IsSpanOf f.ahead.items span → length cursor.items ≡ length f.cursor.items → ((g : ℕ) → g < s.group_count → IsWalking s f g (get_or cursor.items g 0)) → IsSearch s (record f { span = span; cursor = cursor }) n
search_moved s f n span cursor h spans count walked = record {
  room = record {
    ahead = h.room.ahead;
    closed = h.room.closed;
    cursors = count ∙ h.room.cursors;
    distances = h.room.distances;
    orders = h.room.orders;
    vias = h.room.vias;
  };
  span = spans;
  labels = λ i l near. reached_regrouped s f f.ahead span f.closed_at cursor _ _ i (h.labels i l near);
  relaxed = h.relaxed;
  known = λ i l. let w = h.known i l in record { held = w.held; idle = w.idle; skipped = w.skipped; front = w.front; fresh = w.fresh; closed = w.closed; settled = w.settled };
  walked = λ g l. walking_regrouped s f f.ahead span f.closed_at cursor g _ (walked g l);
  settled = settled_regrouped s f f.ahead span f.closed_at cursor h.settled (λ i l near. refl);
  end = end_regrouped s f f.ahead span f.closed_at cursor h.end;
}

pub search_narrowed : (s : Kept) (f : Search) (n : ℕ) (span : Span) → IsSearch s f n → IsSpanOf f.ahead.items span → IsSearch s (record f { span = span }) n
search_narrowed s f n span h spans = search_moved s f n span f.cursor h spans refl h.walked

pub search_walked : (s : Kept) (f : Search) (g n wagon : ℕ) (cursor : Vec ℕ Global) → IsSearch s f n → g < s.group_count → IsWalking s f g wagon → cursor.items ≡ set f.cursor.items g wagon → IsSearch s (record f { cursor = cursor }) n
search_walked s f g n wagon cursor h lg walking e =
    let count = h.room.cursors in
    search_moved s f n f.span cursor h h.span (written_length f.cursor.items cursor.items g wagon e) (λ x l. elim (cases_eq x g) [
      | inl same ↦
          let at : get_or cursor.items x 0 ≡ wagon = ap (λ y. get_or cursor.items y 0) same ∙ same_at f.cursor.items cursor.items g wagon 0 (omega (arith, lg, count)) e in
          subst (IsWalking s f x) (sym at) (subst (λ (y : ℕ). IsWalking s f y wagon) (sym same) walking)
      | inr other ↦ subst (IsWalking s f x) (sym (other_at f.cursor.items cursor.items g wagon 0 x e other)) (h.walked x l)
    ])

-- a search with fewer orders relaxed is one
pub search_before : (s : Kept) (f : Search) (n m : ℕ) → m ≤ n → IsSearch s f n → IsSearch s f m
search_before s f n m le h = record { room = h.room; span = h.span; labels = h.labels; relaxed = λ x lx. h.relaxed x (omega (arith, lx, le)); known = h.known; walked = h.walked; settled = h.settled; end = h.end }
