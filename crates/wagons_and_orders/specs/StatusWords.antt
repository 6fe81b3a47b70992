-- The words of statuses, as a roster, a sheet and a checkpoint have them.
use Rattle.std.specs.Prelude.{◌≡◌, ℕ, Bool, nat_eq, if◌then◌else◌, List, Option, Some, None, codes}
use Rattle.std.specs.Cmp.Lexicographic.{pointwise}
use Rattle.wagons_and_orders.specs.declared.load.Load.TheVariants.{Loaded, Unladen}
use Rattle.wagons_and_orders.specs.declared.status.Status.{Status}
use Rattle.wagons_and_orders.specs.declared.status.Status.TheVariants.{Empty, Loading, Ready, Journey, Yard, Arrived, Unloading}
use Rattle.wagons_and_orders.specs.StatusTable.{place_of}

-- what a wagon is doing
abbrev pub status_word : Status → List ℕ
status_word (Empty place ready) = codes "empty"
status_word (Loading place) = codes "loading"
status_word (Ready place) = codes "ready"
status_word (Journey Loaded place) = codes "journey_loaded"
status_word (Journey Unladen place) = codes "journey_empty"
status_word (Yard Loaded place) = codes "yard_loaded"
status_word (Yard Unladen place) = codes "yard_empty"
status_word (Arrived Loaded place) = codes "arrived_loaded"
status_word (Arrived Unladen place) = codes "arrived_empty"
status_word (Unloading place) = codes "unloading"

-- whether a text is this word
abbrev pub is_word : (word text : List ℕ) → Bool
is_word word text = pointwise nat_eq text word

-- the status that a word says of a wagon at this place; an empty one has been ready since the moment
abbrev pub status_of_word : (word place : List ℕ) → (moment : ℕ) → Option Status
status_of_word word place moment =
    if is_word (codes "empty") word then Some (Empty place moment)
    else if is_word (codes "loading") word then Some (Loading place)
    else if is_word (codes "ready") word then Some (Ready place)
    else if is_word (codes "journey_loaded") word then Some (Journey Loaded place)
    else if is_word (codes "journey_empty") word then Some (Journey Unladen place)
    else if is_word (codes "yard_loaded") word then Some (Yard Loaded place)
    else if is_word (codes "yard_empty") word then Some (Yard Unladen place)
    else if is_word (codes "arrived_loaded") word then Some (Arrived Loaded place)
    else if is_word (codes "arrived_empty") word then Some (Arrived Unladen place)
    else if is_word (codes "unloading") word then Some (Unloading place)
    else None

-- the moment since which an empty wagon has been ready
abbrev pub ready_moment : Status → Option ℕ
ready_moment (Empty place ready) = Some ready
ready_moment (Loading place) = None
ready_moment (Ready place) = None
ready_moment (Journey load place) = None
ready_moment (Yard load place) = None
ready_moment (Arrived load place) = None
ready_moment (Unloading place) = None

-- the status, where an empty wagon has been ready since this moment
abbrev pub ready_since : ℕ → Status → Status
ready_since moment (Empty place ready) = Empty place moment
ready_since moment (Loading place) = Loading place
ready_since moment (Ready place) = Ready place
ready_since moment (Journey load place) = Journey load place
ready_since moment (Yard load place) = Yard load place
ready_since moment (Arrived load place) = Arrived load place
ready_since moment (Unloading place) = Unloading place

-- the word is read as this status
abbrev pub IsWordOf : List ℕ → Status → Type 0
IsWordOf word status = (moment : ℕ) → status_of_word word (place_of status) moment ≡ Some (ready_since moment status)
