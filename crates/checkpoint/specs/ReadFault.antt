-- The numbers of the faults of reading a checkpoint, and their lines.
use Rattle.std.specs.Prelude.{ℕ, Option, Some}
use Rattle.faults.specs.Numbers.{checkpoint_fault_line, checkpoint_fault_number}
use Rattle.faults.specs.declared.faults.CheckpointFault.TheVariants.{BadCheckpointLine}
use Rattle.line_engine.specs.RunFault as run
use Rattle.checkpoint.specs.declared.read_fault.ReadFault.{ReadFault}
use Rattle.checkpoint.specs.declared.read_fault.ReadFault.TheVariants.{Line, Run, Unread}

abbrev pub read_fault_number : ReadFault → ℕ
read_fault_number (Run fault) = run.number_of fault
read_fault_number (Line fault) = checkpoint_fault_number fault
read_fault_number (Unread n fault) = checkpoint_fault_number (BadCheckpointLine n)

abbrev pub read_fault_line : ReadFault → Option ℕ
read_fault_line (Run fault) = run.line_of fault
read_fault_line (Line fault) = Some (checkpoint_fault_line fault)
read_fault_line (Unread n fault) = Some n
