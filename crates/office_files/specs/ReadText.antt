-- What is said of a file that isn't read as a checkpoint.
use Rattle.std.specs.Prelude.{ℕ, Bool, true, false, List}
use Rattle.checkpoint.specs.declared.read_fault.ReadFault.{ReadFault}
use Rattle.checkpoint.specs.declared.read_fault.ReadFault.TheVariants.{Line, Run, Unread}
use Rattle.fault_texts.specs.CheckpointText.{checkpoint_text}
use Rattle.fault_texts.specs.LineText.{line_text}
use Rattle.fault_texts.specs.UnreadText.{unread_text}
use Rattle.line_engine.specs.Lines.{max_line_bytes}
use Rattle.line_engine.specs.declared.run.RunFault.TheVariants as run

-- whether the file couldn't be read, so that the system says why
abbrev pub is_unreadable : ReadFault → Bool
is_unreadable (Run (run.ReadFailed n)) = true
is_unreadable fault = false

-- the text of the fault of its lines, of their end, or of a line that isn't read
abbrev pub read_text : (path : List ℕ) → ReadFault → List ℕ
read_text path (Run fault) = line_text path max_line_bytes fault
read_text path (Line fault) = checkpoint_text path fault
read_text path (Unread n fault) = unread_text path n fault
