-- The search for the shortest path from an order.
use Rattle.std.specs.Prelude.{◌≡◌, ◌≢◌, ◌+◌, ◌<◌, ◌≤◌, ◌⊎◌, nat_lt, ℕ, zero, suc, Bool, length, min, Some, None, slice_index}
use Rattle.std.specs.List.{count_by}
use Rattle.std.specs.Vec.{vec_capacity}
use Rattle.cost_table.specs.Table.{cost_at, penalty_at, wagon_count, order_count}
use Rattle.cost_table.specs.TableLimits.{IsTable, max_cost}
use Rattle.assignment.specs.declared.groups.TheConstants.{NO_WAGON}
use Rattle.assignment.specs.declared.passes.TheConstants.{FAR}
use Rattle.assignment.specs.declared.search.Search.{Search}
use Rattle.assignment.specs.declared.search.Next.{Next}
use Rattle.assignment.specs.declared.state.State.{State}
use Rattle.assignment.specs.inner.Costs.{AreCosts, cell_cost}
use Rattle.assignment.specs.inner.Groups.{AreGroups, group_table}
use Rattle.assignment.specs.inner.Passes.{IsSpanOf}
use Rattle.assignment.specs.inner.State.{Kept, IsEndAt, kept, order_at}

-- there is room for each group and each order
pub record HasRoom (s : Kept) (f : Search) : Type 0 where
  pub ahead : length f.ahead.items ≡ s.group_count
  pub closed : length f.closed_at.items ≡ s.group_count
  pub cursors : length f.cursor.items ≡ s.group_count
  pub distances : length f.order_distance.items ≡ order_count s.table
  pub orders : vec_capacity f.orders ≡ order_count s.table
  pub vias : vec_capacity f.via ≡ order_count s.table

-- the group of wagon i
abbrev pub group_at : Kept → ℕ → ℕ
group_at s i = slice_index s.groups i

-- one more than the distance of group g if it leads on, else 0
abbrev pub ahead_of : Search → ℕ → ℕ
ahead_of f g = slice_index f.ahead.items g

-- the distance of group g if it is closed, else FAR
abbrev pub closed_of : Search → ℕ → ℕ
closed_of f g = slice_index f.closed_at.items g

-- a group's distance, by these two numbers
abbrev pub label_of : ℕ → ℕ → ℕ
label_of zero closed = closed
label_of (suc label) closed = label

-- the distance of wagon i: that of its group
abbrev pub label_at : Kept → Search → ℕ → ℕ
label_at s f i = label_of (ahead_of f (group_at s i)) (closed_of f (group_at s i))

-- the distance of order k, FAR while it isn't settled
abbrev pub distance_at : Search → ℕ → ℕ
distance_at f k = slice_index f.order_distance.items k

-- the order settled at index x
abbrev pub settled_at : Search → ℕ → ℕ
settled_at f x = slice_index f.orders.items x

-- how far wagon i is over its cell of order k, and the order's price more
abbrev pub reach : Kept → Search → ℕ → ℕ → ℕ
reach s f i k = distance_at f k + cell_cost (cost_at s.table i k) + slice_index s.u i

-- at this distance wagon i is reached over its cell of the order at index x
pub record IsReachedFrom (s : Kept) (f : Search) (distance i x : ℕ) : Type 0 where
  pub within : x < length f.orders.items
  pub exact : distance + slice_index s.v (settled_at f x) ≡ reach s f i (settled_at f x)

-- at this distance wagon i is reached from one of the first n orders settled
pub record IsWagonReached (s : Kept) (f : Search) (distance n i : ℕ) : Type 0 where
  pub index : ℕ
  pub before : index < n
  pub from : IsReachedFrom s f distance i index

-- Of each wagon its distance or the nearest end is no farther than it is over its cell of order k.
abbrev pub IsRelaxed : Kept → Search → ℕ → Type 0
IsRelaxed s f k = (i : ℕ) → i < wagon_count s.table → min (label_at s f i) f.end.distance + slice_index s.v k ≤ reach s f i k

-- The order at index x was reached through one of its own wagons, which is as far as it is, and which was reached
-- from an order settled before.
pub record IsLed (s : Kept) (f : Search) (x : ℕ) : Type 0 where
  pub wagon : slice_index f.via.items x < wagon_count s.table
  pub held : order_at s.order_of (slice_index f.via.items x) ≡ Some (settled_at f x)
  pub as_far : label_at s f (slice_index f.via.items x) ≡ distance_at f (settled_at f x)
  pub reached : IsWagonReached s f (distance_at f (settled_at f x)) x (slice_index f.via.items x)

-- where an order stands among those settled
pub record IsAt (f : Search) (k : ℕ) : Type 0 where
  pub index : ℕ
  pub within : index < length f.orders.items
  pub is : settled_at f index ≡ k

abbrev pub is_near : ℕ → Bool
is_near distance = nat_lt distance FAR

-- the orders settled, none farther than the front
pub record AreSettled (s : Kept) (f : Search) : Type 0 where
  pub vias : length f.via.items ≡ length f.orders.items
  pub count : length f.orders.items ≡ count_by is_near f.order_distance.items
  pub order : (x : ℕ) → x < length f.orders.items → settled_at f x < order_count s.table
  pub near : (x : ℕ) → x < length f.orders.items → distance_at f (settled_at f x) ≤ f.front
  pub last : (x : ℕ) → x + 1 ≡ length f.orders.items → distance_at f (settled_at f x) ≡ f.front
  pub listed : (k : ℕ) → k < order_count s.table → distance_at f k < FAR → IsAt f k
  pub apart : (x y : ℕ) → x < y → y < length f.orders.items → settled_at f x ≢ settled_at f y
  pub led : (x : ℕ) → 0 < x → x < length f.orders.items → IsLed s f x

-- a wagon without an order has the cells and the price of wagon i
pub record IsLikeIdle (s : Kept) (i : ℕ) : Type 0 where
  pub wagon : ℕ
  pub within : wagon < wagon_count s.table
  pub none : order_at s.order_of wagon ≡ None
  pub cells : (k : ℕ) → cost_at s.table wagon k ≡ cost_at s.table i k
  pub price : slice_index s.u wagon ≡ slice_index s.u i

-- What is known of wagon i. It is no nearer than its order, or than the front where its order isn't settled. A group with a
-- wagon without an order has no distance. One that leads on is no nearer than the front. One that is closed is no farther,
-- and its wagons' orders are settled.
pub record IsKnown (s : Kept) (f : Search) (i : ℕ) : Type 0 where
  pub held : (k : ℕ) → order_at s.order_of i ≡ Some k → min (distance_at f k) f.front ≤ label_at s f i
  pub idle : order_at s.order_of i ≡ None → (ahead_of f (group_at s i) ≡ 0) × (FAR ≤ label_at s f i)
  pub skipped : FAR ≤ label_at s f i → IsLikeIdle s i
  pub front : 0 < ahead_of f (group_at s i) → f.front ≤ label_at s f i
  pub fresh : 0 < ahead_of f (group_at s i) → closed_of f (group_at s i) ≡ FAR
  pub closed : ahead_of f (group_at s i) ≡ 0 → label_at s f i < FAR → label_at s f i ≤ f.front
  pub settled : ahead_of f (group_at s i) ≡ 0 → label_at s f i < FAR → (k : ℕ) → order_at s.order_of i ≡ Some k → distance_at f k < FAR

-- The nearest end of a path at a settled order, no nearer than the front; FAR where none is settled.
pub record IsNearestEnd (s : Kept) (f : Search) : Type 0 where
  pub beyond : f.front ≤ f.end.distance
  pub none : length f.orders.items ≡ 0 → f.end.distance ≡ FAR
  pub limit : 0 < length f.orders.items → f.end.distance ≤ max_cost
  pub within : 0 < length f.orders.items → f.end.index < length f.orders.items
  pub is : 0 < length f.orders.items → IsEndAt s (settled_at f f.end.index) (distance_at f (settled_at f f.end.index)) f.end.distance f.end.wagon
  pub refusals : (x : ℕ) → x < length f.orders.items → f.end.distance + slice_index s.v (settled_at f x) ≤ distance_at f (settled_at f x) + penalty_at s.table (settled_at f x)
  pub wagons : (x i : ℕ) → x < length f.orders.items → i < wagon_count s.table → order_at s.order_of i ≡ None → f.end.distance + slice_index s.v (settled_at f x) ≤ reach s f i (settled_at f x)

-- Of group g the orders of the wagons before this one are settled. It is a wagon of the group, or there is no other.
pub record IsWalking (s : Kept) (f : Search) (g wagon : ℕ) : Type 0 where
  pub settled : (i k : ℕ) → i < wagon_count s.table → group_at s i ≡ g → i < wagon → order_at s.order_of i ≡ Some k → distance_at f k < FAR
  pub is : wagon ≢ NO_WAGON → (wagon < wagon_count s.table) × (group_at s wagon ≡ g)

-- A search of which the first `scanned` settled orders are relaxed. Each group that leads on is in its span.
pub record IsSearch (s : Kept) (f : Search) (scanned : ℕ) : Type 0 where
  pub room : HasRoom s f
  pub span : IsSpanOf f.ahead.items f.span
  pub labels : (i : ℕ) → i < wagon_count s.table → label_at s f i ≤ max_cost → IsWagonReached s f (label_at s f i) (length f.orders.items) i
  pub relaxed : (x : ℕ) → x < scanned → IsRelaxed s f (settled_at f x)
  pub known : (i : ℕ) → i < wagon_count s.table → IsKnown s f i
  pub walked : (g : ℕ) → g < s.group_count → IsWalking s f g (slice_index f.cursor.items g)
  pub settled : AreSettled s f
  pub end : IsNearestEnd s f

-- wagon i is no nearer than a distance, if its group leads on
abbrev pub IsFrom : Kept → Search → ℕ → ℕ → Type 0
IsFrom s f distance i = 0 < ahead_of f (group_at s i) → distance ≤ label_at s f i

-- An order may be settled next: it is the first, or the wagon that leads to it is no farther than any that leads on, and
-- nearer than each end.
pub record IsNext (s : Kept) (f : Search) (next : Next) : Type 0 where
  pub within : next.order < order_count s.table
  pub far : FAR ≤ distance_at f next.order
  pub limit : next.distance ≤ max_cost
  pub front : f.front ≤ next.distance
  pub end : next.distance ≤ f.end.distance
  pub led : 0 < length f.orders.items → (next.wagon < wagon_count s.table) × (order_at s.order_of next.wagon ≡ Some next.order) × (label_at s f next.wagon ≡ next.distance)
  pub first : length f.orders.items ≡ 0 → next.distance ≡ 0
  pub beyond : (i : ℕ) → i < wagon_count s.table → IsFrom s f next.distance i

-- a group that leads on, while no end is as near as the front
pub record IsLedFrom (s : Kept) (f : Search) (g : ℕ) : Type 0 where
  pub within : g < s.group_count
  pub ahead : 0 < ahead_of f g
  pub before : f.front < f.end.distance

-- a wagon of group g, whose order isn't settled
pub record IsNearer (s : Kept) (f : Search) (g i : ℕ) : Type 0 where
  pub within : i < wagon_count s.table
  pub group : group_at s i ≡ g
  pub order : ℕ
  pub held : order_at s.order_of i ≡ Some order
  pub far : FAR ≤ distance_at f order

-- the orders of all wagons of group g are settled
abbrev pub IsClosable : Kept → Search → ℕ → Type 0
IsClosable s f g = (i k : ℕ) → i < wagon_count s.table → group_at s i ≡ g → order_at s.order_of i ≡ Some k → distance_at f k < FAR

-- A search of a state's table, whose costs are placed by order.
pub record IsSearchOf (state : State) (f : Search) : Type 0 where
  pub table : IsTable state.cells.now
  pub groups : AreGroups state.cells.now state.groups
  pub costs : AreCosts (group_table state.cells.now state.groups.first.items) state.costs.items
  pub group_prices : length state.u.items ≡ length state.groups.first.items
  pub orders : length state.v.items ≡ order_count state.cells.now
  pub room : HasRoom (kept state) f
  pub vias : length f.via.items ≡ length f.orders.items
  pub settled : (x : ℕ) → x < length f.orders.items → settled_at f x < order_count state.cells.now

-- A search that is done: it ends at the nearest end. Of each settled order the cells are relaxed, or it is no nearer than
-- that end.
pub record IsShortestPath (s : Kept) (f : Search) : Type 0 where
  pub scanned : ℕ
  pub search : IsSearch s f scanned
  pub some : 0 < length f.orders.items
  pub relaxed : (x : ℕ) → x < length f.orders.items → IsRelaxed s f (settled_at f x) ⊎ (f.end.distance ≤ distance_at f (settled_at f x))
  pub beyond : (i : ℕ) → i < wagon_count s.table → IsFrom s f f.end.distance i
