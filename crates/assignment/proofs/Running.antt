use Rattle.std.proofs.Common.{◌≡◌, ◌+◌, ◌-◌, ◌<◌, ◌≤◌, ℕ, Bool, true, false, cond, Some, length, refl, ◌∙◌, ap, arith, inl, inr, List, set, get_or}
use Rattle.std.proofs.lemmas.Bool.{cases_eq, cases_lt}
use Rattle.std.proofs.lemmas.List.{get_or_read}
use Rattle.cost_table.specs.Table.{wagon_count, order_count}
use Rattle.assignment.specs.declared.search.Search.{Search}
use Rattle.assignment.specs.declared.search.Next.{Next}
use Rattle.assignment.specs.declared.search.End.{End}
use Rattle.assignment.specs.declared.state.State.{State}
use Rattle.assignment.specs.inner.State.{IsHead, IsState, Kept, IsKept, kept, order_at}
use Rattle.assignment.specs.inner.Search.{IsSearch, IsNext, IsNearer, IsFrom, IsLedFrom, IsShortestPath, ahead_of, closed_of, group_at, distance_at, settled_at}
use Rattle.assignment.proofs.Labels.{label_open}
use Rattle.assignment.proofs.Limits.{held_order}
use Rattle.assignment.proofs.Settle.{next_of}
use Rattle.assignment.proofs.Writes.{same_at, other_at, written_length}

-- a search that began at order j, and settles an order next
pub record IsRunning (s : Kept) (f : Search) (j : ℕ) (next : Next) : Type 0 where
  pub search : IsSearch s f (length f.orders.items)
  pub is_next : IsNext s f next
  pub begins : length f.orders.items ≡ 0 → next.order ≡ j
  pub began : 0 < length f.orders.items → settled_at f 0 ≡ j

-- no group that leads on is nearer
abbrev pub IsBelow : Search → ℕ → Type 0
IsBelow f onward = (g : ℕ) → g < length f.ahead.items → 0 < ahead_of f g → onward < ahead_of f g

-- no group that leads on is nearer than the least distance
pub from_nearest : (s : Kept) (f : Search) (onward limit i : ℕ) → IsBelow f onward → limit ≤ onward → group_at s i < length f.ahead.items → IsFrom s f limit i
from_nearest s f onward limit i nearest below l = λ leads.
    let m = nearest (group_at s i) l leads in
    let label = label_open (ahead_of f (group_at s i)) (closed_of f (group_at s i)) leads in
    omega (arith, m, label, below)

-- an order that isn't settled, of a wagon of the nearest group
pub next_found : (s : Kept) (f : Search) (onward g i order : ℕ) → IsKept s → IsSearch s f (length f.orders.items) → 0 < length f.orders.items → ((i : ℕ) → i < wagon_count s.table → group_at s i < s.group_count) → IsBelow f onward → onward < f.end.distance → ahead_of f g ≡ onward + 1 → IsNearer s f g i → order_at s.order_of i ≡ Some order → 4294967295 ≤ distance_at f order → IsNext s f (next_of order onward i)
next_found s f onward g i order k h some grouped nearest less at nearer held far =
    let l = nearer.within in
    let room = h.room.ahead in
    let top = h.end.limit some in
    let same : ahead_of f (group_at s i) ≡ onward + 1 = ap (ahead_of f) nearer.group ∙ at in
    let label = label_open (ahead_of f (group_at s i)) (closed_of f (group_at s i)) (omega (arith, same)) in
    let front = (h.known i l).front (omega (arith, same)) in
    record {
      within = held_order s i order k held;
      far = far;
      limit = omega (arith, less, top);
      front = omega (arith, front, label, same);
      end = omega (arith, less);
      led = λ _. (l, held, omega (arith, label, same));
      first = λ none. absurd (omega (arith, none, some));
      beyond = λ w lw. from_nearest s f onward onward w nearest (omega arith) (let lg = grouped w lw in omega (arith, lg, room));
    }

-- where no group that leads on is nearer than the nearest end, the path ends there
pub path_found : (s : Kept) (f : Search) (onward : ℕ) → IsSearch s f (length f.orders.items) → 0 < length f.orders.items → ((i : ℕ) → i < wagon_count s.table → group_at s i < s.group_count) → IsBelow f onward → f.end.distance ≤ onward → IsShortestPath s f
path_found s f onward h some grouped nearest beyond =
    let room = h.room.ahead in
    record {
      scanned = length f.orders.items;
      search = h;
      some = some;
      relaxed = λ x lx. inl (h.relaxed x lx);
      beyond = λ i l. from_nearest s f onward f.end.distance i nearest beyond (let lg = grouped i l in omega (arith, lg, room));
    }

-- so it does where an end is as near as the order settled last
pub path_at_front : (s : Kept) (f : Search) (n : ℕ) → IsSearch s f n → n + 1 ≡ length f.orders.items → f.end.distance ≤ f.front → IsShortestPath s f
path_at_front s f n h count near = record {
  scanned = n;
  search = h;
  some = omega (arith, count);
  relaxed = λ x lx. elim (cases_eq x n) [
    | inl last ↦ inr (let far = h.settled.last x (omega (arith, last, count)) in omega (arith, far, near))
    | inr other ↦ inl (h.relaxed x (omega (arith, lx, other, count)))
  ];
  beyond = λ i l leads. let front = (h.known i l).front leads in omega (arith, front, near);
}

-- the first order
pub next_first : (s : Kept) (f : Search) (j : ℕ) → j < order_count s.table → IsSearch s f 0 → length f.orders.items ≡ 0 → f.front ≡ 0 → IsNext s f (next_of j 0 0)
next_first s f j l h none front = record {
  within = l;
  far = elim (cases_lt (distance_at f j) 4294967295) [
    | inl near ↦ absurd (let within = (h.settled.listed j l near).within in omega (arith, within, none))
    | inr far ↦ far
  ];
  limit = omega arith;
  front = omega (arith, front);
  end = omega arith;
  led = λ some. absurd (omega (arith, some, none));
  first = λ _. refl;
  beyond = λ i li leads. omega arith;
}

-- a group with the nearest distance leads on
pub led_from : (s : Kept) (f : Search) (onward g : ℕ) → length f.ahead.items ≡ s.group_count → g < length f.ahead.items → ahead_of f g ≡ onward + 1 → f.front < f.end.distance → IsLedFrom s f g
led_from s f onward g count l at before = record { within = omega (arith, l, count); ahead = omega (arith, at); before = before }

-- no group that leads on is nearer, once one of them is closed
pub below_closed : (ahead ahead' : List ℕ) (onward g : ℕ) → ((k : ℕ) → k < length ahead → 0 < get_or ahead k 0 → onward < get_or ahead k 0) → g < length ahead → ahead' ≡ set ahead g 0 → (k : ℕ) → k < length ahead' → 0 < get_or ahead' k 0 → onward < get_or ahead' k 0
below_closed ahead ahead' onward g below lg e k l leads =
    let long = written_length ahead ahead' g 0 e in
    elim (cases_eq k g) [
      | inl same ↦ absurd (let at : get_or ahead' k 0 ≡ 0 = ap (λ y. get_or ahead' y 0) same ∙ same_at ahead ahead' g 0 0 lg e in omega (arith, at, leads))
      | inr other ↦ let at = other_at ahead ahead' g 0 0 k e other in let m = below k (omega (arith, l, long)) (omega (arith, leads, at)) in omega (arith, m, at)
    ]

-- the nearer of two ends has a wagon that is the first of its group, where both have
pub head_nearer : (state : State) (b : Bool) (end other : End) → IsHead state end.wagon → IsHead state other.wagon → IsHead state (cond b end other).wagon
head_nearer state true end other h k = h
head_nearer state false end other h k = k

-- the order that a search began with is the first that is settled
pub began_with : (f f' : Search) (j order : ℕ) → (length f.orders.items ≡ 0 → order ≡ j) → (0 < length f.orders.items → settled_at f 0 ≡ j) → (length f.orders.items ≡ 0 → settled_at f' 0 ≡ order) → (0 < length f.orders.items → settled_at f' 0 ≡ settled_at f 0) → settled_at f' 0 ≡ j
began_with f f' j order begins began first others = elim (cases_eq (length f.orders.items) 0) [
  | inl none ↦ first none ∙ begins none
  | inr some ↦ let l : 0 < length f.orders.items = omega (arith, some) in others l ∙ began l
]

-- the group of a wagon that a search has reached
pub record IsGroupRead (state : State) (f : Search) (group : ℕ) : Type 0 where
  pub within : group < length f.ahead.items
  pub led : 0 < ahead_of f group → f.front < f.end.distance → IsLedFrom (kept state) f group

pub group_read : (state : State) (f : Search) (n wagon group : ℕ) → IsState state → IsSearch (kept state) f n → wagon < wagon_count state.cells.now → group ≡ get_or state.groups.of.items wagon group → IsGroupRead state f group
group_read state f n wagon group h search lw read =
    let grouped = h.groups.grouped in
    let is : group ≡ get_or state.groups.of.items wagon 0 = get_or_read state.groups.of.items wagon group (omega (arith, lw, grouped)) read 0 in
    let lg = h.groups.group wagon lw in
    let room = search.room.ahead in
    record { within = omega (arith, is, lg, room); led = λ leads before. record { within = omega (arith, is, lg); ahead = leads; before = before } }

-- the order that was settled last, where it is read
pub record IsLastRead (state : State) (f : Search) (order price : ℕ) : Type 0 where
  pub is : order ≡ settled_at f (length f.orders.items - 1)
  pub within : order < order_count state.cells.now
  pub price_is : price ≡ get_or state.v.items order 0

pub last_read : (state : State) (f : Search) (n len order price : ℕ) → IsState state → IsSearch (kept state) f n → 0 < length f.orders.items → len ≡ length f.orders.items → order ≡ get_or f.orders.items (len - 1) order → price ≡ get_or state.v.items order price → IsLastRead state f order price
last_read state f n len order price h search some count read price_read =
    let here : len - 1 ≡ length f.orders.items - 1 = omega (arith, count) in
    let is : order ≡ settled_at f (length f.orders.items - 1) = get_or_read f.orders.items (len - 1) order (omega (arith, count, some)) read 0 ∙ ap (λ x. get_or f.orders.items x 0) here in
    let at = search.settled.order (length f.orders.items - 1) (omega (arith, some)) in
    let prices = h.keeps.priced.orders in
    let within : order < order_count state.cells.now = omega (arith, is, at) in
    record { is = is; within = within; price_is = get_or_read state.v.items order price (omega (arith, within, prices)) price_read 0 }
