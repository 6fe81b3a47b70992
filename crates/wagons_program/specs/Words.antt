-- What each word of the program has printed when it ends, and its status.
use Rattle.std.specs.Prelude.{◌≡◌, ◌⊎◌, ℕ, Bool, List, Option, Result, Ok, Err}
use Rattle.clap.specs.Values.{kind_of}
use Rattle.clap.specs.declared.error.Error.{Error}
use Rattle.clap.specs.declared.error.kind.ErrorKind.TheVariants.{DisplayHelp, DisplayVersion}
use Rattle.command_line.specs.Words.{IsAskedBy}
use Rattle.command_line.specs.declared.words.Word.{Word}
use Rattle.command_line.specs.declared.words.Word.TheVariants as word
use Rattle.table_lines.specs.Checking.{ToPlans}
use Rattle.table_lines.specs.Solving.{ToTables}
use Rattle.office_files.specs.InFile.{BytesAt}
use Rattle.office_files.specs.declared.stop.Stop.{Stop}
use Rattle.wagons_program.specs.Brought.{IsInputAnswered, IsInputBrought, IsInputStopped}
use Rattle.wagons_program.specs.Explanation.{IsExplained}
use Rattle.wagons_program.specs.Fed.{IsFedPrinted, IsFedUndone}
use Rattle.wagons_program.specs.OfLast.{AreOrdersPrinted, IsFleetPrinted, IsMapPrinted, IsPlanPrinted, IsSavedPrinted, IsTablePrinted}
use Rattle.wagons_program.specs.Moved.{AreMovesPrinted}
use Rattle.wagons_program.specs.Noted.{IsReviewDone, IsReviewUndone}
use Rattle.wagons_program.specs.NotedRun.{IsRunUndone}
use Rattle.wagons_program.specs.Reasoned.{AreReasonsPrinted}
use Rattle.wagons_program.specs.Streams.{IsUnprinted, PrintsNothing, Streams}
use Rattle.wagons_program.specs.Traced.{IsTracePrinted}

-- A word came to its end with this status. What is known of a file are its bytes by its path; of an open file of a feed, those that
-- it has left, and whether its reading failed.
abbrev pub IsDone : {F : Type 0} → BytesAt → (remaining : F → Option (List ℕ)) → (has_failed : F → Bool) → Word → Streams → (status : ℕ) → Type 0
IsDone bytes_at remaining has_failed (word.Check options) given status = IsInputAnswered ToPlans options.limit tt given status
IsDone bytes_at remaining has_failed (word.Solve options) given status = IsInputAnswered ToTables options.limit options.limit given status
IsDone bytes_at remaining has_failed (word.Run options) given status = IsInputBrought bytes_at options.office given status
IsDone bytes_at remaining has_failed (word.Feed options) given status = IsFedPrinted bytes_at remaining has_failed options given status
IsDone bytes_at remaining has_failed (word.Moves options) given status = AreMovesPrinted bytes_at options given status
IsDone bytes_at remaining has_failed (word.Fleet options) given status = IsFleetPrinted bytes_at options given status
IsDone bytes_at remaining has_failed (word.Orders options) given status = AreOrdersPrinted bytes_at options given status
IsDone bytes_at remaining has_failed (word.Trace options) given status = IsTracePrinted bytes_at options given status
IsDone bytes_at remaining has_failed (word.Map options) given status = IsMapPrinted bytes_at options given status
IsDone bytes_at remaining has_failed (word.Plan options) given status = IsPlanPrinted bytes_at options given status
IsDone bytes_at remaining has_failed (word.Table options) given status = IsTablePrinted bytes_at options given status
IsDone bytes_at remaining has_failed (word.Why options) given status = AreReasonsPrinted bytes_at options given status
IsDone bytes_at remaining has_failed (word.Review options) given status = IsReviewDone bytes_at options given status
IsDone bytes_at remaining has_failed (word.Save options) given status = IsSavedPrinted bytes_at options given status
IsDone bytes_at remaining has_failed (word.Explain explained) given status = IsExplained explained given status

-- Why a word didn't come to its end, and what it printed before.
abbrev pub IsUndone : BytesAt → Word → Streams → (why : Stop) → Type 0
IsUndone bytes_at (word.Check options) given why = IsInputStopped ToPlans options.limit tt given why
IsUndone bytes_at (word.Solve options) given why = IsInputStopped ToTables options.limit options.limit given why
IsUndone bytes_at (word.Run options) given why = IsRunUndone bytes_at options given why
IsUndone bytes_at (word.Feed options) given why = IsFedUndone given why
IsUndone bytes_at (word.Moves options) given why = IsUnprinted given why
IsUndone bytes_at (word.Fleet options) given why = IsUnprinted given why
IsUndone bytes_at (word.Orders options) given why = IsUnprinted given why
IsUndone bytes_at (word.Trace options) given why = IsUnprinted given why
IsUndone bytes_at (word.Map options) given why = IsUnprinted given why
IsUndone bytes_at (word.Plan options) given why = IsUnprinted given why
IsUndone bytes_at (word.Table options) given why = IsUnprinted given why
IsUndone bytes_at (word.Why options) given why = IsUnprinted given why
IsUndone bytes_at (word.Review options) given why = IsReviewUndone bytes_at options given why
IsUndone bytes_at (word.Save options) given why = IsUnprinted given why
IsUndone bytes_at (word.Explain explained) given why = IsUnprinted given why

-- What an error of the command line printed: help or the version, which clap says, and status 0; or nothing, and status 2.
abbrev pub IsTextOf : Error → Streams → (status : ℕ) → Type 0
IsTextOf error given status =
    (((kind_of error ≡ DisplayHelp) ⊎ (kind_of error ≡ DisplayVersion)) × (status ≡ 0)) ⊎ (PrintsNothing given × (status ≡ 2))

-- What the words of the command line were read as: the word that they ask for, or why they ask for none.
abbrev pub AreReadAs : (texts : List (List ℕ)) → (asked : Result Word Error) → Type 0
AreReadAs texts (Ok word) = IsAskedBy texts word
AreReadAs texts (Err error) = Unit {0}

-- What the program's words asked for was done, with this status; or it wasn't, and the status is 2.
abbrev pub IsEnded : {F : Type 0} → BytesAt → (remaining : F → Option (List ℕ)) → (has_failed : F → Bool) → (asked : Result Word Error) → Streams → (status : ℕ) → Type 0
IsEnded bytes_at remaining has_failed (Ok word) given status =
    IsDone bytes_at remaining has_failed word given status ⊎ ((status ≡ 2) × (why : Stop) × IsUndone bytes_at word given why)
IsEnded bytes_at remaining has_failed (Err error) given status = IsTextOf error given status ⊎ ((status ≡ 2) × (why : Stop) × IsUnprinted given why)

-- The words of the command line were read, and what they asked for was done, with this status; or it wasn't, and the status is 2.
abbrev pub AreEnded : {F : Type 0} → BytesAt → (remaining : F → Option (List ℕ)) → (has_failed : F → Bool) → (texts : List (List ℕ)) → Streams → (status : ℕ) → Type 0
AreEnded bytes_at remaining has_failed texts given status =
    (asked : Result Word Error) × AreReadAs texts asked × IsEnded bytes_at remaining has_failed asked given status
