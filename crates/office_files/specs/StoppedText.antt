-- What standard error says where the program could not run or stopped: a line for programs, and one for people.
use Rattle.std.specs.Prelude.{ℕ, List, ◌++◌, ◌∷◌, Option, Some, None, String, string_bytes}
use Rattle.std.specs.declared.alloc.Global.{Global}
use Rattle.office_files.specs.StopText.{stop_text}
use Rattle.office_files.specs.Told.{words_of}
use Rattle.office_files.specs.declared.stop.Stop.{Stop}
use Rattle.office_files.specs.declared.stopped.Stopped.{Stopped}

-- what people are told: the text that was made, else the words of the reason
abbrev pub said_of : Stop → (told : Option (String Global)) → List ℕ
said_of stop (Some told) = string_bytes told
said_of stop None = words_of stop

-- both lines, with the line feed between them
abbrev pub stopped_text : Stopped → List ℕ
stopped_text stopped = stop_text stopped.stop ++ 10 ∷ said_of stopped.stop stopped.told
