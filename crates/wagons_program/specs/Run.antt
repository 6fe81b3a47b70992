-- How `wagons run` ends: from its arguments and the bytes of its files and of its input to the bytes of its output and its status.
use Rattle.std.specs.Prelude.{◌≡◌, ◌⊎◌, ℕ, Bool, List, Option, Ok}
use Rattle.command_line.specs.Words.{IsAskedBy}
use Rattle.command_line.specs.declared.office_options.RunOptions.{RunOptions}
use Rattle.command_line.specs.declared.words.Word.TheVariants as word
use Rattle.office_files.specs.InFile.{BytesAt}
use Rattle.office_files.specs.declared.stop.Stop.{Stop}
use Rattle.wagons_program.specs.Brought.{IsInputBrought}
use Rattle.wagons_program.specs.NotedRun.{IsRunUndone}
use Rattle.wagons_program.specs.Streams.{Streams}
use Rattle.wagons_program.specs.Words.{AreReadAs, IsEnded}

-- These words of the command line ask for `run` with these options, and it ended with this status: the command lines of the input
-- were brought to the first book for the options, and what was printed are their replies; or they weren't, or their notes couldn't be
-- written, for this reason, and the status is 2.
pub record IsRunEnded (bytes_at : BytesAt) (texts : List (List ℕ)) (options : RunOptions) (given : Streams) (status : ℕ) : Type 0 where
  pub asked : IsAskedBy texts (word.Run options)
  pub ended : IsInputBrought bytes_at options.office given status ⊎ ((status ≡ 2) × (why : Stop) × IsRunUndone bytes_at options given why)

-- So ends each run of the program whose words were read as `run` with these options.
abbrev pub RunsEndSo : Type 0 → Type 0
RunsEndSo F =
    (bytes_at : BytesAt) (remaining : F → Option (List ℕ)) (has_failed : F → Bool) (texts : List (List ℕ)) (options : RunOptions) (given : Streams) (status : ℕ)
    → AreReadAs texts (Ok (word.Run options)) → IsEnded bytes_at remaining has_failed (Ok (word.Run options)) given status → IsRunEnded bytes_at texts options given status
