-- The number that stands for each fault in a reply.
use Rattle.std.specs.Prelude.{ℕ}
use Rattle.faults.specs.declared.faults.StepFault.{StepFault}
use Rattle.faults.specs.declared.faults.StepFault.TheVariants as step_fault
use Rattle.faults.specs.declared.faults.RecordFault.{RecordFault}
use Rattle.faults.specs.declared.faults.RecordFault.TheVariants as record_fault
use Rattle.faults.specs.declared.faults.NetworkFault.{NetworkFault}
use Rattle.faults.specs.declared.faults.NetworkFault.TheVariants as network_fault
use Rattle.faults.specs.declared.faults.RosterFault.{RosterFault}
use Rattle.faults.specs.declared.faults.RosterFault.TheVariants as roster_fault
use Rattle.faults.specs.declared.faults.WorkFault.{WorkFault}
use Rattle.faults.specs.declared.faults.WorkFault.TheVariants as work_fault
use Rattle.faults.specs.declared.faults.TableFault.{TableFault}
use Rattle.faults.specs.declared.faults.TableFault.TheVariants as table_fault
use Rattle.faults.specs.declared.faults.CheckFault.{CheckFault}
use Rattle.faults.specs.declared.faults.CheckFault.TheVariants as check_fault
use Rattle.faults.specs.declared.faults.NamedFault.{NamedFault}
use Rattle.faults.specs.declared.faults.NamedFault.TheVariants as named_fault
use Rattle.faults.specs.declared.faults.ApplyFault.{ApplyFault}
use Rattle.faults.specs.declared.faults.ApplyFault.TheVariants as apply_fault
use Rattle.faults.specs.declared.faults.Refusal.{Refusal}
use Rattle.faults.specs.declared.faults.Refusal.TheVariants as refusal
use Rattle.faults.specs.declared.faults.PlanFault.{PlanFault}
use Rattle.faults.specs.declared.faults.PlanFault.TheVariants as plan_fault
use Rattle.faults.specs.declared.faults.FeedFault.{FeedFault}
use Rattle.faults.specs.declared.faults.FeedFault.TheVariants as feed_fault
use Rattle.faults.specs.declared.faults.CheckpointFault.{CheckpointFault}
use Rattle.faults.specs.declared.faults.CheckpointFault.TheVariants as checkpoint_fault
use Rattle.faults.specs.declared.faults.FleetFault.{FleetFault}
use Rattle.faults.specs.declared.faults.FleetFault.TheVariants as fleet_fault

-- why a movement message does not fit the row of its wagon
abbrev pub step_fault_number : StepFault → ℕ
step_fault_number step_fault.Earlier = 31
step_fault_number step_fault.WrongStatus = 32
step_fault_number step_fault.WrongPlace = 33

-- why a reader of records gave none
abbrev pub record_fault_number : RecordFault → ℕ
record_fault_number record_fault.OutOfMemory = 1
record_fault_number record_fault.ReadFailed = 93

-- why no network was read
abbrev pub network_fault_number : NetworkFault → ℕ
network_fault_number network_fault.OutOfMemory = 1
network_fault_number (network_fault.BadRow n) = 41
network_fault_number network_fault.TooManyPlaces = 42
network_fault_number network_fault.TooManyLines = 43
network_fault_number network_fault.ReadFailed = 93

-- why no roster was read
abbrev pub roster_fault_number : RosterFault → ℕ
roster_fault_number roster_fault.OutOfMemory = 1
roster_fault_number (roster_fault.DuplicateWagon number) = 51
roster_fault_number roster_fault.TooLarge = 53
roster_fault_number (roster_fault.BadRosterRow n) = 78
roster_fault_number roster_fault.ReadFailed = 93

-- why lines are no checkpoint, and the number of the line
abbrev pub checkpoint_fault_number : CheckpointFault → ℕ
checkpoint_fault_number (checkpoint_fault.DuplicateWagon n) = 51
checkpoint_fault_number (checkpoint_fault.DuplicateOrder n) = 52
checkpoint_fault_number (checkpoint_fault.TooLarge n) = 53
checkpoint_fault_number (checkpoint_fault.TooManyOpen n) = 75
checkpoint_fault_number (checkpoint_fault.UnknownNetwork n) = 79
checkpoint_fault_number (checkpoint_fault.BadCheckpointLine n) = 85
checkpoint_fault_number (checkpoint_fault.OneSidedPromise n) = 86
checkpoint_fault_number (checkpoint_fault.OrderFull n) = 87
checkpoint_fault_number (checkpoint_fault.CheckpointCut n) = 88

abbrev pub checkpoint_fault_line : CheckpointFault → ℕ
checkpoint_fault_line (checkpoint_fault.DuplicateWagon n) = n
checkpoint_fault_line (checkpoint_fault.DuplicateOrder n) = n
checkpoint_fault_line (checkpoint_fault.TooLarge n) = n
checkpoint_fault_line (checkpoint_fault.TooManyOpen n) = n
checkpoint_fault_line (checkpoint_fault.UnknownNetwork n) = n
checkpoint_fault_line (checkpoint_fault.BadCheckpointLine n) = n
checkpoint_fault_line (checkpoint_fault.OneSidedPromise n) = n
checkpoint_fault_line (checkpoint_fault.OrderFull n) = n
checkpoint_fault_line (checkpoint_fault.CheckpointCut n) = n

-- why a fleet isn't changed
abbrev pub fleet_fault_number : FleetFault → ℕ
fleet_fault_number fleet_fault.OutOfMemory = 1
fleet_fault_number fleet_fault.TooLarge = 53
fleet_fault_number (fleet_fault.UnknownWagon number) = 73
fleet_fault_number (fleet_fault.WagonPromised number) = 89

-- why workers made no tables
abbrev pub work_fault_number : WorkFault → ℕ
work_fault_number work_fault.OutOfMemory = 1
work_fault_number work_fault.BadWorkerCount = 45
work_fault_number work_fault.NoThread = 46

-- why names or rows are no table
abbrev pub table_fault_number : TableFault → ℕ
table_fault_number table_fault.OutOfMemory = 1
table_fault_number (table_fault.DuplicateWagon number) = 51
table_fault_number (table_fault.DuplicateOrder id) = 52
table_fault_number table_fault.TooLarge = 53
table_fault_number table_fault.UnevenRows = 54

-- why pairs and prices are no certificate
abbrev pub check_fault_number : CheckFault → ℕ
check_fault_number check_fault.WrongLengths = 61
check_fault_number (check_fault.NotAllowed i j) = 62
check_fault_number (check_fault.UsedTwice i j) = 63
check_fault_number (check_fault.PriceGap i j) = 64
check_fault_number (check_fault.OverPenalty j) = 65
check_fault_number (check_fault.SumsDiffer left right) = 66

-- why pairs that are given by name, and prices, are no certificate
abbrev pub named_fault_number : NamedFault → ℕ
named_fault_number named_fault.OutOfMemory = 1
named_fault_number named_fault.WrongLengths = 61
named_fault_number (named_fault.NotAllowed wagon order) = 62
named_fault_number (named_fault.UsedTwice wagon order) = 63
named_fault_number (named_fault.PriceGap wagon order) = 64
named_fault_number (named_fault.OverPenalty order) = 65
named_fault_number (named_fault.SumsDiffer left right) = 66
named_fault_number (named_fault.NotInProblem wagon order) = 84

-- why an event is refused
abbrev pub apply_fault_number : ApplyFault → ℕ
apply_fault_number apply_fault.OutOfMemory = 1
apply_fault_number (apply_fault.Step fault) = step_fault_number fault
apply_fault_number apply_fault.UnknownWagon = 73
apply_fault_number apply_fault.OrderKnown = 74
apply_fault_number apply_fault.TooManyOpen = 75
apply_fault_number apply_fault.UnknownOrder = 76
apply_fault_number apply_fault.OrderClosed = 77
apply_fault_number apply_fault.UnknownNetwork = 79
apply_fault_number apply_fault.SameNetwork = 80

-- why a book refuses a call
abbrev pub refusal_number : Refusal → ℕ
refusal_number refusal.OutOfMemory = 1
refusal_number (refusal.Step fault) = step_fault_number fault
refusal_number (refusal.Check fault) = named_fault_number fault
refusal_number refusal.IdReused = 71
refusal_number refusal.BookFull = 72
refusal_number refusal.UnknownWagon = 73
refusal_number refusal.OrderKnown = 74
refusal_number refusal.TooManyOpen = 75
refusal_number refusal.UnknownOrder = 76
refusal_number refusal.OrderClosed = 77
refusal_number refusal.UnknownNetwork = 79
refusal_number refusal.SameNetwork = 80
refusal_number refusal.NotKept = 81
refusal_number (refusal.WagonChanged wagon) = 82
refusal_number (refusal.OrderChanged order) = 83

-- why no plan was made
abbrev pub plan_fault_number : PlanFault → ℕ
plan_fault_number plan_fault.OutOfMemory = 1
plan_fault_number plan_fault.UnknownNetwork = 79

-- why files were not fed to a book
abbrev pub feed_fault_number : FeedFault → ℕ
feed_fault_number feed_fault.OutOfMemory = 1
feed_fault_number feed_fault.NoThread = 46
feed_fault_number (feed_fault.ReceiptLost seat entry) = 96
