-- A run that solves tables leaves the most bytes of a line as they were.
use Rattle.std.proofs.Common.{◌≡◌, ℕ, ◌+◌, Bool, true, false, List, [], ◌∷◌, Result, Ok, Err, ◌∙◌}
use Rattle.std.specs.Prelude.{MatchBool}
use Rattle.line_engine.specs.Lines.{is_blank, lines_of}
use Rattle.line_engine.specs.Replies.{ServesLine, ServesLines}
use Rattle.line_engine.specs.Runs.{Failures, Run, Runs, RunStops}
use Rattle.line_engine.specs.declared.run.RunCount.{RunCount}
use Rattle.line_engine.specs.declared.run.RunFault.{RunFault}
use Rattle.line_engine.specs.declared.run.RunFault.TheVariants.{OutOfMemory, TooManyLines, LineTooLong, ReadFailed, WriteFailed}
use Rattle.table_lines.specs.Solving.{ToTables}

either : {P Q X : Type 0} (b : Bool) → (P → X) → (Q → X) → MatchBool b P Q → X
either true f g h = f h
either false f g h = g h

line_keeps : (n old : ℕ) (line text : List ℕ) (refused : Bool) (new : ℕ) → ServesLine ToTables n old line text refused new → new ≡ old
line_keeps n old line text refused new h = either (is_blank line) (λ blank. blank.2) (λ reply. reply.1) h

lines_keep : (n old : ℕ) (lines : List (List ℕ)) (output : List ℕ) (refusals new : ℕ) → ServesLines ToTables n old lines output refusals new → new ≡ old
lines_keep n old [] output refusals new h = h.2
lines_keep n old (line ∷ lines) output refusals new h =
    lines_keep (n + 1) h.4 lines h.1 h.3 new h.6 ∙ line_keeps n old line h.0 h.2 h.4 h.5

stop_keeps : (run : Run ℕ) (failed : Failures) (fault : RunFault) → RunStops ToTables run failed fault → run.new ≡ run.old
stop_keeps run failed OutOfMemory s = s.2
stop_keeps run failed (TooManyLines n) s = lines_keep 1 run.old s.0.lines s.0.output s.0.refusals run.new s.0.replies
stop_keeps run failed (LineTooLong n) s = lines_keep 1 run.old s.0.lines s.0.output s.0.refusals run.new s.0.replies
stop_keeps run failed (ReadFailed n) s = lines_keep 1 run.old s.0.lines s.0.output s.0.refusals run.new s.0.replies
stop_keeps run failed (WriteFailed n) s =
    line_keeps n s.0 s.4.line s.4.text s.4.refused run.new s.4.reply ∙ lines_keep 1 run.old s.2.lines s.2.output s.2.refusals s.0 s.2.replies

pub run_keeps : (run : Run ℕ) (failed : Failures) (result : Result RunCount RunFault) → Runs ToTables run failed result → run.new ≡ run.old
run_keeps run failed (Ok count) r = lines_keep 1 run.old (lines_of r.ok.input) r.ok.output count.refused run.new r.ok.replies
run_keeps run failed (Err fault) r = stop_keeps run failed fault r.err
