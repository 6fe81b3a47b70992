-- Two files that move one wagon. The order of lines of two files isn't kept, so such messages refuse each other.
use Rattle.std.specs.Prelude.{◌≡◌, ◌≢◌, ◌⊎◌, ◌<◌, ℕ, zero, suc, Bool, true, false, nat_eq, List, Option, Some, None, IfSome, slice_get}
use Rattle.std.specs.Cmp.Lexicographic.{pointwise}
use Rattle.std.specs.List.{list_any}
use Rattle.wagons_and_orders.specs.Numbers.{is_below}
use Rattle.sessions.specs.FedLines.{wagon_of}
use Rattle.sessions.specs.FeedCounts.{FileAnswers}
use Rattle.sessions.specs.declared.crossing.Crossing.{Crossing}
use Rattle.sessions.specs.declared.feed_lines.Counted.{Counted}
use Rattle.sessions.specs.declared.feed_lines.Counted.TheVariants.{Accepted, Repeated, OutOfStep, Refused, Nowhere}
use Rattle.sessions.specs.declared.receipt.Receipt.{Receipt}

-- whether this is the wagon
abbrev pub is_wagon : (wagon : List ℕ) → Option (List ℕ) → Bool
is_wagon wagon None = false
is_wagon wagon (Some number) = pointwise nat_eq wagon number

-- whether a receipt is of a message of the wagon
abbrev pub is_moved_by : (wagon : List ℕ) → Receipt → Bool
is_moved_by wagon receipt = is_wagon wagon (wagon_of receipt.event)

-- whether a line counts as a message of the wagon that the status table refused
abbrev pub is_out_of_step : (wagon : List ℕ) → Counted → Bool
is_out_of_step wagon (OutOfStep number) = pointwise nat_eq wagon number
is_out_of_step wagon Accepted = false
is_out_of_step wagon Repeated = false
is_out_of_step wagon Refused = false
is_out_of_step wagon Nowhere = false

-- what stands for file k, where files are counted from 1
abbrev pub of_file : {X : Type 0} → List X → (k : ℕ) → Option X
of_file files zero = None
of_file files (suc index) = slice_get files index

-- a message of the wagon was accepted from one file, and one was refused by the status table from another
pub record IsCrossing (answers : List FileAnswers) (crossing : Crossing) : Type 0 where
  pub moving : FileAnswers
  pub is_moving : of_file answers crossing.moved_in ≡ Some moving
  pub moved : list_any (is_moved_by crossing.wagon) moving.seat.receipts ≡ true
  pub refusing : FileAnswers
  pub is_refusing : of_file answers crossing.refused_in ≡ Some refusing
  pub refused : list_any (is_out_of_step crossing.wagon) refusing.counts ≡ true
  pub apart : crossing.moved_in ≢ crossing.refused_in

-- by the refusing file's number, and then by the wagon's, it is not behind another
abbrev pub IsNotBehind : (found : Option Crossing) → (other : Crossing) → Type 0
IsNotBehind None other = ⊥
IsNotBehind (Some first) other = (first.refused_in < other.refused_in) ⊎ ((first.refused_in ≡ other.refused_in) × (is_below first.wagon other.wagon ≡ false))

-- What is found is a crossing. None is before it, and there is none where none is found; this is not said where memory was
-- refused for the wagon of a refused message.
pub record IsFirstCrossing (answers : List FileAnswers) (found : Option Crossing) (lost : Bool) : Type 0 where
  pub holds : IfSome found (IsCrossing answers)
  pub first : lost ≡ false → (other : Crossing) → IsCrossing answers other → IsNotBehind found other
