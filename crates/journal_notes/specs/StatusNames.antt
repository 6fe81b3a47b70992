-- What a wagon is doing, without where.
use Rattle.std.specs.Prelude.{ℕ, List, codes}
use Rattle.wagons_and_orders.specs.declared.load.Load.TheVariants.{Loaded, Unladen}
use Rattle.wagons_and_orders.specs.declared.status.Status.{Status}
use Rattle.wagons_and_orders.specs.declared.status.Status.TheVariants.{Empty, Loading, Ready, Journey, Yard, Arrived, Unloading}
use Rattle.journal_notes.specs.declared.status_name.StatusName.{StatusName}
use Rattle.journal_notes.specs.declared.status_name.StatusName.TheVariants as name

abbrev pub status_name : Status → StatusName
status_name (Empty place ready) = name.Empty
status_name (Loading place) = name.Loading
status_name (Ready place) = name.Ready
status_name (Journey Loaded place) = name.JourneyLoaded
status_name (Journey Unladen place) = name.JourneyEmpty
status_name (Yard Loaded place) = name.YardLoaded
status_name (Yard Unladen place) = name.YardEmpty
status_name (Arrived Loaded place) = name.ArrivedLoaded
status_name (Arrived Unladen place) = name.ArrivedEmpty
status_name (Unloading place) = name.Unloading

-- the word of a status, as a roster and a sheet have it
abbrev pub name_word : StatusName → List ℕ
name_word name.Empty = codes "empty"
name_word name.Loading = codes "loading"
name_word name.Ready = codes "ready"
name_word name.JourneyLoaded = codes "journey_loaded"
name_word name.JourneyEmpty = codes "journey_empty"
name_word name.YardLoaded = codes "yard_loaded"
name_word name.YardEmpty = codes "yard_empty"
name_word name.ArrivedLoaded = codes "arrived_loaded"
name_word name.ArrivedEmpty = codes "arrived_empty"
name_word name.Unloading = codes "unloading"
