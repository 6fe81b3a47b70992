-- The numbers of the faults that stop a run.
use Rattle.std.specs.Prelude.{ℕ, Option, Some, None}
use Rattle.line_engine.specs.declared.window.LineStop.{LineStop}
use Rattle.line_engine.specs.declared.window.LineStop.TheVariants as stop
use Rattle.line_engine.specs.declared.run.RunFault.{RunFault}
use Rattle.line_engine.specs.declared.run.RunFault.TheVariants.{OutOfMemory, TooManyLines, LineTooLong, ReadFailed, WriteFailed}

abbrev pub number_of : RunFault → ℕ
number_of OutOfMemory = 1
number_of (TooManyLines n) = 91
number_of (LineTooLong n) = 92
number_of (ReadFailed n) = 93
number_of (WriteFailed n) = 94

abbrev pub line_of : RunFault → Option ℕ
line_of OutOfMemory = None
line_of (TooManyLines n) = Some n
line_of (LineTooLong n) = Some n
line_of (ReadFailed n) = Some n
line_of (WriteFailed n) = Some n

-- why a line could not be cut, as the fault of line n
abbrev pub fault_at : LineStop → ℕ → RunFault
fault_at stop.TooLong n = LineTooLong n
fault_at stop.ReadFailed n = ReadFailed n
