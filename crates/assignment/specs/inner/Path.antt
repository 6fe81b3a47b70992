-- The way back from the end of a path to its first order.
use Rattle.std.specs.Prelude.{◌≡◌, ◌<◌, ◌≤◌, ◌+◌, ◌⊎◌, ◌==◌, ℕ, if◌then◌else◌, List, length, min, Option, Some, None, slice_index}
use Rattle.assignment.specs.declared.search.Search.{Search}
use Rattle.assignment.specs.inner.State.{Kept, order_at, served}
use Rattle.assignment.specs.inner.Search.{IsReachedFrom, label_at}

-- the order that an end takes a unit from: one that refuses it
abbrev pub given_up_at : Search → Option ℕ → Option ℕ
given_up_at f (Some i) = None
given_up_at f None = Some (slice_index f.orders.items f.end.index)

abbrev pub given_up : Search → Option ℕ
given_up f = given_up_at f f.end.wagon

-- the wagon is the one that ends the way, or one that led to an order
abbrev pub IsOnWay : Search → ℕ → ℕ → Type 0
IsOnWay f end i = (i ≡ end) ⊎ ((x : ℕ) × (0 < x) × (x < length f.orders.items) × (slice_index f.via.items x ≡ i))

abbrev pub IsOnPathTo : Search → Option ℕ → ℕ → Type 0
IsOnPathTo f (Some end) i = IsOnWay f end i
IsOnPathTo f None i = (x : ℕ) × (0 < x) × (x < length f.orders.items) × (slice_index f.via.items x ≡ i)

abbrev pub IsOnPath : Search → ℕ → Type 0
IsOnPath f i = IsOnPathTo f f.end.wagon i

-- The wagon has the order at an index from which it was reached: at its distance, or at the path's length if that is less.
pub record IsGiven (s : Kept) (f : Search) (order_of : List (Option ℕ)) (i : ℕ) : Type 0 where
  pub index : ℕ
  pub from : IsReachedFrom s f (min (label_at s f i) f.end.distance) i index
  pub order : order_at order_of i ≡ Some (slice_index f.orders.items index)

-- each wagon has its order still, or it is one of those on the way and has the order that it was reached from
abbrev pub AreHandedOn : Kept → Search → (IsOn : ℕ → Type 0) → List (Option ℕ) → Type 0
AreHandedOn s f IsOn new = (i : ℕ) → (order_at new i ≡ order_at s.order_of i) ⊎ (IsOn i × IsGiven s f new i)

-- 1 where it is order k, else 0
abbrev pub one_if : ℕ → Option ℕ → ℕ
one_if k None = 0
one_if k (Some q) = if q == k then 1 else 0

-- how many wagons order k has
abbrev pub wagons_of : Kept → ℕ → ℕ
wagons_of s k = served k s.order_of

-- how many wagons each order has before a unit is handed on: the order that gives one up has one
abbrev pub HasOneToGive : (before : ℕ → ℕ) → Search → (given_up : Option ℕ) → ℕ → Type 0
HasOneToGive before f given_up k = one_if k given_up ≤ before k + one_if k (Some (slice_index f.orders.items 0))

-- how many wagons each order has, before and after a unit is handed on: the first order of the path has one more, and the
-- order that gives one up has one fewer
abbrev pub IsHandedOn : (before after : ℕ → ℕ) → Search → (given_up : Option ℕ) → ℕ → Type 0
IsHandedOn before after f given_up k = after k + one_if k given_up ≡ before k + one_if k (Some (slice_index f.orders.items 0))
