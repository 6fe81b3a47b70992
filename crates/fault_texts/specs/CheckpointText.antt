-- What is said of a file whose lines are no checkpoint.
use Rattle.std.specs.Prelude.{ℕ, List, ◌++◌, codes}
use Rattle.faults.specs.Numbers.{checkpoint_fault_line}
use Rattle.faults.specs.declared.faults.CheckpointFault.{CheckpointFault}
use Rattle.faults.specs.declared.faults.CheckpointFault.TheVariants.{DuplicateWagon, DuplicateOrder, TooLarge, TooManyOpen, UnknownNetwork, BadCheckpointLine, OneSidedPromise, OrderFull, CheckpointCut}
use Rattle.fault_texts.specs.Where.{at_line}

-- what is wrong with the line
abbrev pub line_fault : CheckpointFault → List ℕ
line_fault (DuplicateWagon n) = codes ": an earlier line has this wagon"
line_fault (DuplicateOrder n) = codes ": an earlier line has this order"
line_fault (TooLarge n) = codes ": a checkpoint has at most 1,000 wagons"
line_fault (TooManyOpen n) = codes ": with this order the open orders want over 500 wagons in all"
line_fault (UnknownNetwork n) = codes ": its network in force is none of those that --network gives"
line_fault (BadCheckpointLine n) = codes ": first a line of type checkpoint must stand, then wagons ascending by number, each as an office can have it, then orders, and last a line of type end, as wagons save prints them"
line_fault (OneSidedPromise n) = codes ": a promise must stand both with the wagon and with the order, and stands with one of them alone"
line_fault (OrderFull n) = codes ": the order has more wagons than it wants, or all were delivered"
line_fault (CheckpointCut n) = codes ": a line of type end must be the last, and count the lines before it"

abbrev pub checkpoint_text : (path : List ℕ) → CheckpointFault → List ℕ
checkpoint_text path fault = at_line path (checkpoint_fault_line fault) ++ line_fault fault
