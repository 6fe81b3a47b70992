-- When a wagon can be at a place at the earliest, by what is known of it at a moment.
use Rattle.std.specs.Prelude.{◌≡◌, ℕ, ◌+◌, ◌*◌, max, Bool, true, false, nat_eq, List, Option, Some, None}
use Rattle.std.specs.Cmp.Lexicographic.{pointwise}
use Rattle.line_network.specs.Distance.{IsDistance}
use Rattle.line_network.specs.DistanceAnswers.{HasNoWalk}
use Rattle.line_network.specs.Network.{NetworkValue}
use Rattle.wagons_and_orders.specs.StatusTable.{place_of}
use Rattle.wagons_and_orders.specs.declared.status.Status.{Status}
use Rattle.wagons_and_orders.specs.declared.status.Status.TheVariants.{Empty, Loading, Ready, Journey, Yard, Arrived, Unloading}
use Rattle.wagons_and_orders.specs.declared.wagon_row.WagonRow.{WagonRow}
use Rattle.movements.specs.declared.movement.Way.{Way}

-- When a wagon whose last message is of this moment leaves: an empty one when it is ready; one on its way left at that message;
-- any other stands there still. None that stands leaves before the moment at which it is asked.
abbrev pub departure : (at : ℕ) → Status → (last : ℕ) → ℕ
departure at (Empty place ready) last = max ready at
departure at (Loading place) last = max last at
departure at (Ready place) last = max last at
departure at (Journey load place) last = last
departure at (Yard load place) last = max last at
departure at (Arrived load place) last = max last at
departure at (Unloading place) last = max last at

-- whether a wagon has arrived at a place
abbrev pub has_arrived : Status → (to : List ℕ) → Bool
has_arrived (Empty place ready) to = false
has_arrived (Loading place) to = false
has_arrived (Ready place) to = false
has_arrived (Journey load place) to = false
has_arrived (Yard load place) to = false
has_arrived (Arrived load place) to = pointwise nat_eq place to
has_arrived (Unloading place) to = false

-- The earliest moment at which the wagon of a row can be at a place that is so many minutes away, in seconds since 1970. One on
-- its way isn't there before the moment at which it is asked.
abbrev pub arrival_of : (at : ℕ) → WagonRow → (minutes : ℕ) → ℕ
arrival_of at row minutes = max (departure at row.status row.last + 60 * minutes) at

-- the way of a wagon that has arrived: it has been there since its last message
abbrev pub here : WagonRow → Way
here row = record { km = 0; minutes = 0; arrival = row.last }

-- the way of one that hasn't: the walk of fewest kilometres; none where no walk leads to the place
abbrev pub IsWalkOf : NetworkValue → (at : ℕ) → WagonRow → (to : List ℕ) → Option Way → Type 0
IsWalkOf net at row to None = HasNoWalk net (place_of row.status) to
IsWalkOf net at row to (Some way) =
    IsDistance net (place_of row.status) to (way.km, way.minutes) × (way.arrival ≡ arrival_of at row way.minutes)

-- the way of a wagon that has arrived, or hasn't
abbrev pub IsWayBy : (arrived : Bool) → NetworkValue → (at : ℕ) → WagonRow → (to : List ℕ) → Option Way → Type 0
IsWayBy true net at row to way = way ≡ Some (here row)
IsWayBy false net at row to way = IsWalkOf net at row to way

-- the way of a row's wagon to a place
abbrev pub IsWayOf : NetworkValue → (at : ℕ) → WagonRow → (to : List ℕ) → Option Way → Type 0
IsWayOf net at row to way = IsWayBy (has_arrived row.status to) net at row to way
