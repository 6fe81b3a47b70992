-- The number of each reason why the program could not run or stopped.
use Rattle.std.specs.Prelude.{ℕ}
use Rattle.faults.specs.Numbers.{feed_fault_number, fleet_fault_number, network_fault_number, roster_fault_number, work_fault_number}
use Rattle.line_engine.specs.RunFault.{number_of}
use Rattle.place_names.specs.Faults.{places_fault_number}
use Rattle.checkpoint.specs.ReadFault.{read_fault_number}
use Rattle.office_files.specs.declared.stop.Stop.{Stop}
use Rattle.office_files.specs.declared.stop.Stop.TheVariants.{OutOfMemory, Networks, OpenFailed, Roster, Checkpoint, Fleet, Network, Places, Tables, OrderNotInProblem, WagonNotInProblem, OrderNotOnMap, LineWithoutPlan, WriteFailed, NotesFailed, Run, Feed}

abbrev pub stop_number : Stop → ℕ
stop_number OutOfMemory = 1
stop_number (Networks fault) = 47
stop_number OpenFailed = 93
stop_number (Roster fault) = roster_fault_number fault
stop_number (Checkpoint fault) = read_fault_number fault
stop_number (Fleet fault) = fleet_fault_number fault
stop_number (Network fault) = network_fault_number fault
stop_number (Places fault) = places_fault_number fault
stop_number (Tables fault) = work_fault_number fault
stop_number (OrderNotInProblem id) = 84
stop_number (WagonNotInProblem number) = 84
stop_number (OrderNotOnMap id) = 84
stop_number (LineWithoutPlan line) = 84
stop_number WriteFailed = 94
stop_number (NotesFailed line) = 94
stop_number (Run fault) = number_of fault
stop_number (Feed fault) = feed_fault_number fault
