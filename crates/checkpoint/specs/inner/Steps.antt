-- What the calls that take lines answer, and what a run over lines does.
use Rattle.std.specs.Prelude.{◌≡◌, ℕ, List, Result, Ok, Err}
use Rattle.line_engine.specs.declared.run.RunFault.TheVariants.{OutOfMemory}
use Rattle.checkpoint.specs.Parts.{PartsValue}
use Rattle.checkpoint.specs.Taking.{Taken, take_line}
use Rattle.checkpoint.specs.declared.read_fault.ReadFault.{ReadFault}
use Rattle.checkpoint.specs.declared.read_fault.ReadFault.TheVariants.{Line, Run, Unread}

-- the fault that the definition gives, or memory is out
abbrev pub IsFaultOf : {A : Type 0} → Result A ReadFault → ReadFault → Type 0
IsFaultOf {A} taken (Run fault) = fault ≡ OutOfMemory
IsFaultOf {A} taken (Line fault) = taken ≡ Err (Line fault)
IsFaultOf {A} taken (Unread n fault) = taken ≡ Err (Unread n fault)

-- the parts that the definition gives, or its fault, or memory is out
abbrev pub Follows : Taken → Result PartsValue ReadFault → Type 0
Follows taken (Ok parts) = taken ≡ Ok parts
Follows taken (Err fault) = IsFaultOf taken fault

-- what a line that isn't blank may make of the parts, or of the fault before it
abbrev pub TakesFrom : (networks n : ℕ) → Result PartsValue ReadFault → (line : List ℕ) → Result PartsValue ReadFault → Type 0
TakesFrom networks n (Err fault) line new = new ≡ Err fault
TakesFrom networks n (Ok parts) line new = Follows (take_line networks n parts line) new
