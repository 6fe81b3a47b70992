-- How the wagons that files noted are held against the receipts of the others.
use Rattle.std.specs.Prelude.{◌≡◌, ◌≢◌, ◌<◌, ℕ, suc, Bool, true, false, if◌then◌else◌, List, length, Option, Some, None, IfSome, slice_get}
use Rattle.std.specs.List.{list_any}
use Rattle.wagons_and_orders.specs.Numbers.{is_below}
use Rattle.sessions.specs.Crossings.{IsNotBehind, is_moved_by, of_file}
use Rattle.sessions.specs.Seat.{SeatValue}
use Rattle.sessions.specs.declared.crossing.Crossing.{Crossing}
use Rattle.sessions.specs.declared.receipt.Receipt.{Receipt}
use Rattle.sessions.specs.inner.RefusedWagons.{RefusedWagonsValue, has_wagon}

-- ---- the least wagon

-- the lesser of two wagons; the one that there is, where there is one
abbrev pub least_of : (one other : Option (List ℕ)) → Option (List ℕ)
least_of None other = other
least_of (Some first) None = Some first
least_of (Some first) (Some second) = if is_below first second then Some second else Some first

-- the least wagon of which this holds; none where it holds of none
abbrev pub IsLeast : ((wagon : List ℕ) → Type 0) → Option (List ℕ) → Type 0
IsLeast P None = (wagon : List ℕ) → P wagon → ⊥
IsLeast P (Some least) = P least × ((wagon : List ℕ) → P wagon → is_below least wagon ≡ false)

-- a wagon where it is one of these
abbrev pub one_of : RefusedWagonsValue → Option (List ℕ) → Option (List ℕ)
one_of refused None = None
one_of refused (Some wagon) = if has_wagon wagon refused then Some wagon else None

-- one of these wagons has a receipt
pub record IsMovedAmong (receipts : List Receipt) (refused : RefusedWagonsValue) (wagon : List ℕ) : Type 0 where
  pub moved : list_any (is_moved_by wagon) receipts ≡ true
  pub noted : has_wagon wagon refused ≡ true

-- ---- files

-- the file of an index moved a wagon, and it isn't this one
pub record IsMovedIn (seats : List SeatValue) (index file : ℕ) (wagon : List ℕ) : Type 0 where
  pub apart : file ≢ index
  pub seat : SeatValue
  pub is_seat : slice_get seats file ≡ Some seat
  pub moved : list_any (is_moved_by wagon) seat.receipts ≡ true

-- one of these wagons was moved by one of the first files, other than this one
pub record IsMovedBut (seats : List SeatValue) (index count : ℕ) (refused : RefusedWagonsValue) (wagon : List ℕ) : Type 0 where
  pub file : ℕ
  pub within : file < count
  pub moved : IsMovedIn seats index file wagon
  pub noted : has_wagon wagon refused ≡ true

-- the first crossing at the file of an index that noted these wagons
abbrev pub IsFirstOf : List SeatValue → (index : ℕ) → RefusedWagonsValue → Option Crossing → Type 0
IsFirstOf seats index refused None = (wagon : List ℕ) → IsMovedBut seats index (length seats) refused wagon → ⊥
IsFirstOf seats index refused (Some crossing) =
    (crossing.refused_in ≡ suc index) × (has_wagon crossing.wagon refused ≡ true)
    × ((file : ℕ) × (crossing.moved_in ≡ suc file) × IsMovedIn seats index file crossing.wagon)
    × ((wagon : List ℕ) → IsMovedBut seats index (length seats) refused wagon → is_below crossing.wagon wagon ≡ false)

-- ---- all files

-- a wagon has a receipt of one file and was noted by another
pub record IsHeld (seats : List SeatValue) (refused : List RefusedWagonsValue) (crossing : Crossing) : Type 0 where
  pub moving : SeatValue
  pub is_moving : of_file seats crossing.moved_in ≡ Some moving
  pub moved : list_any (is_moved_by crossing.wagon) moving.receipts ≡ true
  pub refusing : RefusedWagonsValue
  pub is_refusing : of_file refused crossing.refused_in ≡ Some refusing
  pub noted : has_wagon crossing.wagon refusing ≡ true
  pub apart : crossing.moved_in ≢ crossing.refused_in

-- the first such one
pub record IsFirstHeld (seats : List SeatValue) (refused : List RefusedWagonsValue) (found : Option Crossing) : Type 0 where
  pub holds : IfSome found (IsHeld seats refused)
  pub first : (other : Crossing) → IsHeld seats refused other → IsNotBehind found other
