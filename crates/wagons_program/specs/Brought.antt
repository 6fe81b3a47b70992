-- What a run over the lines of an input does, up to the status of the program.
use Rattle.std.specs.Prelude.{◌≡◌, ◌⊎◌, ℕ, List, Option}
use Rattle.command_line.specs.declared.office_options.OfficeOptions.{OfficeOptions}
use Rattle.commit_book.specs.Books.{BookValue}
use Rattle.line_engine.specs.Lines.{max_line_bytes}
use Rattle.line_engine.specs.Replies.{Replying}
use Rattle.line_engine.specs.Runs.{Failures, Run, RunEnds, RunStops}
use Rattle.line_engine.specs.declared.run.RunCount.{RunCount}
use Rattle.line_engine.specs.declared.run.RunFault.{RunFault}
use Rattle.line_network.specs.Network.{NetworkValue}
use Rattle.office.specs.CommandReplies.{ToCommands}
use Rattle.wagons_program.specs.FirstBook.{IsFirstBookFor}
use Rattle.wagons_program.specs.Streams.{PrintsNothing, Streams}
use Rattle.office_files.specs.InFile.{BytesAt}
use Rattle.office_files.specs.declared.stop.Stop.{Stop}
use Rattle.office_files.specs.declared.stop.Stop.TheVariants as stop
use Rattle.wagons_program.specs.Status.{status_of_count}

-- A run over lines: the most bytes of a line; what is read and printed; what the lines were brought to, before and after them.
pub record Lines (H : Type 0) : Type 0 where
  pub most : ℕ
  pub given : Streams
  pub old : H
  pub new : H

-- the same of what is read and printed, and the states before and after
abbrev pub lines_over : {H : Type 0} → (most : ℕ) → Streams → (old new : H) → Lines H
lines_over most given old new = record { most = most; given = given; old = old; new = new }

-- the same where the output holds this behind the lines
abbrev pub printed_to : {H : Type 0} → Lines H → (holds : Option (List ℕ)) → Lines H
printed_to lines holds = record lines { given = record lines.given { holds = holds } }

-- by what is left of the input after it
abbrev pub run_of : {H : Type 0} → Lines H → (left : Option (List ℕ)) → Run H
run_of lines left = record { most = lines.most; from = lines.given.input; to = left; held = lines.given.held; holds = lines.given.holds; old = lines.old; new = lines.new }

-- The input came to its end, what was printed are the replies to its lines, and this is the status.
pub record AreAnswered {H : Type 0} (replying : Replying H) (lines : Lines H) (status : ℕ) : Type 0 where
  pub left : Option (List ℕ)
  pub count : RunCount
  pub ends : RunEnds replying (run_of lines left) count
  pub status_is : status ≡ status_of_count count

-- the lines of an input, each of at most so many bytes, were replied to so from this state on, and this is the status
abbrev pub IsInputAnswered : {H : Type 0} → Replying H → (most : ℕ) → (first : H) → Streams → (status : ℕ) → Type 0
IsInputAnswered {H = H} replying most first given status = (last : H) × AreAnswered replying (lines_over most given first last) status

-- The run stopped at the line that it says, the replies to the lines before were printed, and this is why.
pub record AreStopped {H : Type 0} (replying : Replying H) (lines : Lines H) (why : Stop) : Type 0 where
  pub left : Option (List ℕ)
  pub failed : Failures
  pub fault : RunFault
  pub stops : RunStops replying (run_of lines left) failed fault
  pub why_is : why ≡ stop.Run fault

-- the same of the lines of an input, each of at most so many bytes, from this state on
abbrev pub IsInputStopped : {H : Type 0} → Replying H → (most : ℕ) → (first : H) → Streams → (why : Stop) → Type 0
IsInputStopped {H = H} replying most first given why = (last : H) × AreStopped replying (lines_over most given first last) why

-- the command lines of an input led from the first book for these options to this one, and this is the status
abbrev pub IsBroughtTo : BytesAt → OfficeOptions → (networks : List NetworkValue) → Streams → (book : BookValue) → (status : ℕ) → Type 0
IsBroughtTo bytes_at options networks given book status =
    (first : BookValue) × IsFirstBookFor bytes_at options networks first × AreAnswered ToCommands (lines_over max_line_bytes given first book) status

-- the command lines of an input were brought to the first book for these options, and this is the status
abbrev pub IsInputBrought : BytesAt → OfficeOptions → Streams → (status : ℕ) → Type 0
IsInputBrought bytes_at options given status = (networks : List NetworkValue) × (book : BookValue) × IsBroughtTo bytes_at options networks given book status

-- Why they weren't: there was no first book, and nothing was printed; or the run stopped.
abbrev pub IsNotBrought : BytesAt → OfficeOptions → Streams → (why : Stop) → Type 0
IsNotBrought bytes_at options given why =
    PrintsNothing given
    ⊎ ((networks : List NetworkValue) × (first : BookValue) × IsFirstBookFor bytes_at options networks first
    × IsInputStopped ToCommands max_line_bytes first given why)
