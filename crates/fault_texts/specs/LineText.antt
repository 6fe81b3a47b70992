-- What is said of an input that wasn't read to its end.
use Rattle.std.specs.Prelude.{ℕ, List, ◌++◌, codes, decimal}
use Rattle.line_engine.specs.declared.run.RunFault.{RunFault}
use Rattle.line_engine.specs.declared.run.RunFault.TheVariants.{OutOfMemory, TooManyLines, LineTooLong, ReadFailed, WriteFailed}
use Rattle.fault_texts.specs.Where.{at_line}

-- by the most bytes that a line may have
abbrev pub line_text : (input : List ℕ) → (most : ℕ) → RunFault → List ℕ
line_text input most OutOfMemory = codes "out of memory"
line_text input most (TooManyLines n) = at_line input n ++ codes ": at most 1,000,000 lines may be given"
line_text input most (LineTooLong n) = at_line input n ++ codes ": it has over " ++ decimal most ++ codes " bytes"
line_text input most (ReadFailed n) = at_line input n ++ codes ": it couldn't be read"
line_text input most (WriteFailed n) = at_line input n ++ codes ": the reply to it couldn't be written"
