-- Groups of wagons that have the same row.
use Rattle.std.specs.Prelude.{◌≡◌, ◌<◌, ◌≤◌, ◌⊎◌, ℕ, List, length, map, slice_index}
use Rattle.std.specs.Vec.{vec_capacity}
use Rattle.cost_table.specs.Table.{Table, costs_at, wagon_count}
use Rattle.cost_table.specs.TableRows.{row_at}
use Rattle.assignment.specs.declared.groups.Groups.{Groups}
use Rattle.assignment.specs.declared.groups.TheConstants.{NO_WAGON}

-- the group of wagon i; the first and the last wagon of group g; the wagon after wagon i in its group
abbrev pub group_in : Groups → ℕ → ℕ
group_in groups i = slice_index groups.of.items i

abbrev pub first_in : Groups → ℕ → ℕ
first_in groups g = slice_index groups.first.items g

abbrev pub last_in : Groups → ℕ → ℕ
last_in groups g = slice_index groups.last.items g

abbrev pub next_in : Groups → ℕ → ℕ
next_in groups i = slice_index groups.next.items i

-- the first wagons of groups are wagons of the table, and not more than it has
pub record AreFirst (t : Table) (first : List ℕ) : Type 0 where
  pub few : length first ≤ wagon_count t
  pub within : (g : ℕ) → g < length first → slice_index first g < wagon_count t

-- The first n wagons are in groups. Wagons of a group have one row; its wagons stand in a chain, ascending, from the first
-- to the last, and none of them is left out.
pub record AreGrouped (t : Table) (n : ℕ) (groups : Groups) : Type 0 where
  pub grouped : length groups.of.items ≡ n
  pub chained : length groups.next.items ≡ wagon_count t
  pub counts : length groups.last.items ≡ length groups.first.items
  pub few : length groups.first.items ≤ n
  pub group : (i : ℕ) → i < n → group_in groups i < length groups.first.items
  pub row : (i : ℕ) → i < n → row_at t i ≡ row_at t (first_in groups (group_in groups i))
  pub first_within : (g : ℕ) → g < length groups.first.items → first_in groups g < n
  pub first_of : (g : ℕ) → g < length groups.first.items → group_in groups (first_in groups g) ≡ g
  pub first_least : (i : ℕ) → i < n → first_in groups (group_in groups i) ≤ i
  pub last_within : (g : ℕ) → g < length groups.first.items → last_in groups g < n
  pub last_of : (g : ℕ) → g < length groups.first.items → group_in groups (last_in groups g) ≡ g
  pub last_greatest : (i : ℕ) → i < n → i ≤ last_in groups (group_in groups i)
  pub after_last : (g : ℕ) → g < length groups.first.items → next_in groups (last_in groups g) ≡ NO_WAGON
  pub next_later : (i : ℕ) → i < n → i < next_in groups i
  pub next_of : (i : ℕ) → i < n → (next_in groups i ≡ NO_WAGON) ⊎ ((next_in groups i < n) × (group_in groups (next_in groups i) ≡ group_in groups i))
  pub fresh : (i : ℕ) → n ≤ i → i < wagon_count t → next_in groups i ≡ NO_WAGON
  pub between : (i w : ℕ) → i < n → w < n → group_in groups i ≡ group_in groups w → w < i → next_in groups w ≤ i

-- there is room for each wagon
pub record HasRoomFor (n : ℕ) (groups : Groups) : Type 0 where
  pub of : vec_capacity groups.of ≡ n
  pub first : vec_capacity groups.first ≡ n
  pub last : vec_capacity groups.last ≡ n

-- all wagons of a table are in groups
abbrev pub AreGroups : Table → Groups → Type 0
AreGroups t groups = AreGrouped t (wagon_count t) groups

-- the table whose costs are those of the groups
abbrev pub group_table : Table → List ℕ → Table
group_table t first = record t { costs = map (costs_at t) first }

-- the price of each wagon: that of its group
abbrev pub prices_of : List ℕ → List ℕ → List ℕ
prices_of groups u = map (slice_index u) groups
