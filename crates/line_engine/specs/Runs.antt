-- What a run over all lines of an input has done when it ends or stops.
use Rattle.std.specs.Prelude.{◌≡◌, ℕ, ◌+◌, ◌<◌, ◌≤◌, Bool, true, false, ◌⊎◌, List, [], ◌∷◌, ◌++◌, length, Option, Result, IfOk, IfErr, OnOk}
use Rattle.std.specs.Io.KnownBytes.{Consumes, Appends, Keeps, IsAtEnd}
use Rattle.std.specs.List.{AllByRecursion}
use Rattle.line_engine.specs.Lines.{lines_of, first_line, has_feed, is_unended, max_input_lines, BeginsWith, IsWithin}
use Rattle.line_engine.specs.Replies.{Answering, RunningOut, Replying, Numbered, ServesLine, ServesLines}
use Rattle.line_engine.specs.declared.device.Sink as sink
use Rattle.line_engine.specs.declared.device.Source as source
use Rattle.line_engine.specs.declared.run.RunCount.{RunCount}
use Rattle.line_engine.specs.declared.run.RunFault.{RunFault}
use Rattle.line_engine.specs.declared.run.RunFault.TheVariants.{OutOfMemory, TooManyLines, LineTooLong, ReadFailed, WriteFailed}

-- What a run goes over: the most bytes of a line; the bytes that the reader has left before and after it, where they are
-- known; the bytes that the writer holds before and after it, where they are known; the state before and after it.
pub record Run (H : Type 0) : Type 0 where
  pub most : ℕ
  pub from : Option (List ℕ)
  pub to : Option (List ℕ)
  pub held : Option (List ℕ)
  pub holds : Option (List ℕ)
  pub old : H
  pub new : H

-- the same by the most bytes of a line, by what is known of the bytes of a reader and of a writer, and by the reader, the
-- writer and the state before the run and after it
abbrev pub run_over : {R W H : Type 0} → (most : ℕ) → (R → Option (List ℕ)) → (W → Option (List ℕ)) → (before after : R × W × H) → Run H
run_over most remaining contents before after =
    record { most = most; from = remaining before.0; to = remaining after.0; held = contents before.1; holds = contents after.1; old = before.2; new = after.2 }

-- whether the reader has failed by the end of a run; whether the writer has
pub record Failures : Type 0 where
  pub reader : Bool
  pub writer : Bool

-- The reader came to its end. What was read are the lines, at most 1,000,000 of them and each within the run's limit, and
-- what was written are their replies and nothing else. `unended` says whether the last of them has no line feed.
pub record RunEnds {H : Type 0} (replying : Replying H) (run : Run H) (count : RunCount) : Type 0 where
  pub input : List ℕ
  pub output : List ℕ
  pub consumed : Consumes run.from run.to input
  pub ended : IsAtEnd run.to
  pub replies : ServesLines replying 1 run.old (lines_of input) output count.refused run.new
  pub lines : count.lines ≡ length (lines_of input)
  pub unended : count.unended ≡ is_unended input
  pub few : count.lines ≤ max_input_lines
  pub short : AllByRecursion (IsWithin run.most) (lines_of input)
  pub written : Appends run.held run.holds output

-- The run stands before line number n: what was read are the lines before it, each within the run's limit, whose replies
-- were written, and the rest.
pub record RunStandsAt {H : Type 0} (replying : Replying H) (run : Run H) (n : ℕ) : Type 0 where
  pub input : List ℕ
  pub lines : List (List ℕ)
  pub rest : List ℕ
  pub output : List ℕ
  pub refusals : ℕ
  pub consumed : Consumes run.from run.to input
  pub begins : BeginsWith input lines rest
  pub number : n ≡ length lines + 1
  pub short : AllByRecursion (IsWithin run.most) lines
  pub replies : ServesLines replying 1 run.old lines output refusals run.new
  pub written : Appends run.held run.holds output

-- The line at the front of the rest, within the run's limit, was answered, and a part of its reply written. The line is
-- whole: its line feed was read, or the reader is at its end.
pub record RunWritesPart {H : Type 0} (replying : Replying H) (run : Run H) (rest : List ℕ) (n : ℕ) : Type 0 where
  pub line : List ℕ
  pub after : List ℕ
  pub front : lines_of rest ≡ line ∷ lines_of after
  pub whole : (has_feed rest ≡ true) ⊎ IsAtEnd run.to
  pub short : IsWithin run.most line
  pub text : List ℕ
  pub refused : Bool
  pub reply : ServesLine replying n run.old line text refused run.new
  pub part : List ℕ
  pub unwritten : List ℕ
  pub parts : text ≡ part ++ unwritten
  pub written : Appends run.held run.holds part

-- the number of a line of an input, or of the one past the most where nothing of it was read
abbrev pub IsLineOrNext : ℕ → (rest : List ℕ) → Type 0
IsLineOrNext n rest = (n ≤ max_input_lines) ⊎ ((n ≡ max_input_lines + 1) × (rest ≡ []))

-- Why a run stops, and what it leaves. Out of memory comes before any line.
abbrev pub RunStops : {H : Type 0} → Replying H → Run H → Failures → RunFault → Type 0
RunStops {H} replying run failed OutOfMemory = Keeps run.from run.to × Keeps run.held run.holds × (run.new ≡ run.old)
RunStops {H} replying run failed (TooManyLines n) = (at : RunStandsAt replying run n) × (n ≡ max_input_lines + 1) × (0 < length at.rest)
RunStops {H} replying run failed (LineTooLong n) = (at : RunStandsAt replying run n) × (n ≤ max_input_lines) × (run.most < length (first_line at.rest))
RunStops {H} replying run failed (ReadFailed n) =
    (at : RunStandsAt replying run n) × IsLineOrNext n at.rest × (has_feed at.rest ≡ false) × (failed.reader ≡ true)
RunStops {H} replying run failed (WriteFailed n) =
    (mid : H) × (between : Option (List ℕ)) × (at : RunStandsAt replying (record run { holds = between; new = mid }) n) × (n ≤ max_input_lines)
    × RunWritesPart replying (record run { held = between; old = mid }) at.rest n × (failed.writer ≡ true)

-- What a run has done, by what it answers: it came to the end of its input, and neither its reader nor its writer has
-- failed; or it stopped.
pub record Runs {H : Type 0} (replying : Replying H) (run : Run H) (failed : Failures) (result : Result RunCount RunFault) : Type 0 where
  pub ok : IfOk result (λ count. RunEnds replying run count)
  pub err : IfErr result (λ fault. RunStops replying run failed fault)
  pub healthy : OnOk result ((failed.reader ≡ false) × (failed.writer ≡ false))

-- the same by the most bytes of a line, by what is known of a reader and of a writer, and by the reader, the writer and the
-- state before the run and after it
abbrev pub RunsOver : {H R W : Type 0} → Replying H → (most : ℕ) → source.Ghosts R → sink.Ghosts W → (before after : R × W × H) → Result RunCount RunFault → Type 0
RunsOver replying most reading writing before after result =
    Runs replying (run_over most reading.remaining writing.contents before after)
    (record { reader = reading.has_failed after.0; writer = writing.has_failed after.1 }) result

-- ---- the same where replies stand behind their lines' numbers

abbrev pub Ends : {H : Type 0} → Answering H → RunningOut H → Run H → RunCount → Type 0
Ends {H} answers runs_out run count = RunEnds (Numbered answers runs_out) run count

abbrev pub StandsAt : {H : Type 0} → Answering H → RunningOut H → Run H → ℕ → Type 0
StandsAt {H} answers runs_out run n = RunStandsAt (Numbered answers runs_out) run n

abbrev pub Stops : {H : Type 0} → Answering H → RunningOut H → Run H → Failures → RunFault → Type 0
Stops {H} answers runs_out run failed fault = RunStops (Numbered answers runs_out) run failed fault
