-- What a reason why the program could not run or stopped is printed as: its number, and what it is about.
use Rattle.std.specs.Prelude.{ℕ, List, [], ◌++◌, Option, Some, None, codes, decimal}
use Rattle.checkpoint.specs.ReadFault.{read_fault_line}
use Rattle.faults.specs.declared.faults.FeedFault.TheVariants as feed
use Rattle.faults.specs.declared.faults.FleetFault.TheVariants as fleet
use Rattle.faults.specs.declared.faults.NetworkFault.TheVariants as network
use Rattle.faults.specs.declared.faults.RosterFault.TheVariants as roster
use Rattle.line_engine.specs.RunFault.{line_of}
use Rattle.place_names.specs.declared.places_fault.PlacesFault.TheVariants as places
use Rattle.office_files.specs.Stop.{stop_number}
use Rattle.office_files.specs.declared.stop.Stop.{Stop}
use Rattle.office_files.specs.declared.stop.Stop.TheVariants.{Roster, Checkpoint, Fleet, Network, Places, OrderNotInProblem, WagonNotInProblem, OrderNotOnMap, LineWithoutPlan, NotesFailed, Run, Feed}

-- the wagon or the order
abbrev pub name_of : Stop → Option (List ℕ)
name_of (Roster (roster.DuplicateWagon number)) = Some number
name_of (Fleet (fleet.UnknownWagon number)) = Some number
name_of (Fleet (fleet.WagonPromised number)) = Some number
name_of (WagonNotInProblem number) = Some number
name_of (OrderNotInProblem id) = Some id
name_of (OrderNotOnMap id) = Some id
name_of stop = None

-- the number of the file's record or of the line at which it stopped
abbrev pub place_of : Stop → Option ℕ
place_of (Roster (roster.BadRosterRow n)) = Some n
place_of (Network (network.BadRow n)) = Some n
place_of (Places (places.BadRow n)) = Some n
place_of (Places (places.DuplicatePlace n)) = Some n
place_of (Checkpoint fault) = read_fault_line fault
place_of (Run fault) = line_of fault
place_of (LineWithoutPlan line) = Some line
place_of (NotesFailed line) = line
place_of stop = None

-- the numbers of a seat and of an entry
abbrev pub receipt_of : Stop → Option (ℕ × ℕ)
receipt_of (Feed (feed.ReceiptLost seat entry)) = Some (seat, entry)
receipt_of stop = None

-- each behind a space, where there is one
abbrev pub spaced_name : Option (List ℕ) → List ℕ
spaced_name None = []
spaced_name (Some name) = codes " " ++ name

abbrev pub spaced_place : Option ℕ → List ℕ
spaced_place None = []
spaced_place (Some n) = codes " " ++ decimal n

abbrev pub spaced_receipt : Option (ℕ × ℕ) → List ℕ
spaced_receipt None = []
spaced_receipt (Some receipt) = codes " " ++ decimal receipt.0 ++ codes " " ++ decimal receipt.1

-- at most one of the three is there
abbrev pub stop_text : Stop → List ℕ
stop_text stop =
    codes "wagons: " ++ decimal (stop_number stop) ++ spaced_name (name_of stop) ++ spaced_place (place_of stop) ++ spaced_receipt (receipt_of stop)
