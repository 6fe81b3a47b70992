-- Passes over groups.
use Rattle.std.specs.Prelude.{◌≡◌, ◌≢◌, ◌+◌, ◌-◌, ◌<◌, ◌≤◌, ℕ, List, length, min, slice_index}
use Rattle.assignment.specs.declared.groups.TheConstants.{NO_WAGON}
use Rattle.assignment.specs.declared.passes.Span.{Span}
use Rattle.assignment.specs.declared.passes.TheConstants.{FAR}

-- each of these numbers that isn't 0 is in the span
pub record IsSpanOf (numbers : List ℕ) (span : Span) : Type 0 where
  pub ordered : span.start ≤ span.end
  pub within : span.end ≤ length numbers
  pub from : (g : ℕ) → g < length numbers → 0 < slice_index numbers g → span.start ≤ g
  pub before : (g : ℕ) → g < length numbers → 0 < slice_index numbers g → g < span.end

-- the distance of a group at a price over its cell of an order at a distance and a price
abbrev pub through : ℕ → ℕ → ℕ → ℕ → ℕ
through distance order_price cost price = ((cost + price) - order_price) + distance

-- one of the first n has this number
pub record IsAttained (number_of : ℕ → ℕ) (number n : ℕ) : Type 0 where
  pub index : ℕ
  pub within : index < n
  pub is : number_of index ≡ number

-- Each number is one more than a distance: the lesser of what it was, and of the distance over the cell.
abbrev pub AreRelaxed : (distance order_price : ℕ) → (costs prices old new : List ℕ) → Type 0
AreRelaxed distance order_price costs prices old new =
    (g : ℕ) → g < length old → slice_index new g ≡ min (slice_index old g) (through (distance + 1) order_price (slice_index costs g) (slice_index prices g))

-- Of the numbers that aren't 0, one more than distances, the least distance; FAR where there is none.
pub record IsNearest (ahead : ℕ → ℕ) (onward n : ℕ) : Type 0 where
  pub below : (g : ℕ) → g < n → 0 < ahead g → onward < ahead g
  pub attained : onward < FAR → IsAttained ahead (onward + 1) n

-- this is the first of the span that has this number
pub record IsFound (numbers : List ℕ) (number : ℕ) (span : Span) (g : ℕ) : Type 0 where
  pub from : span.start ≤ g
  pub before : g < span.end
  pub is : slice_index numbers g ≡ number
  pub first : (k : ℕ) → span.start ≤ k → k < g → slice_index numbers k ≡ number → ⊥

-- group g has an idle wagon
abbrev pub HasIdle : List ℕ → ℕ → Type 0
HasIdle idle g = slice_index idle g ≢ NO_WAGON

-- this one of the first n groups has an idle wagon, and this cost
pub record IsFoundIdle (costs idle : List ℕ) (cost n g : ℕ) : Type 0 where
  pub within : g < n
  pub is : slice_index costs g ≡ cost
  pub has : HasIdle idle g

-- one of the first n groups has an idle wagon, and this cost
pub record HasIdleAt (costs idle : List ℕ) (cost n : ℕ) : Type 0 where
  pub group : ℕ
  pub is : IsFoundIdle costs idle cost n group

-- the least cost of such groups, FAR where there is none
pub record IsLeastIdle (costs idle : List ℕ) (least n : ℕ) : Type 0 where
  pub below : (g : ℕ) → g < n → HasIdle idle g → least ≤ slice_index costs g
  pub attained : least < FAR → HasIdleAt costs idle least n
