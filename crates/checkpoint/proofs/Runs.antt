-- What a run over the lines of a checkpoint has read.
use Rattle.std.proofs.Common.{◌≡◌, ◌∙◌, ℕ, ◌+◌, ◌<◌, true, false, length, refl, sym, ap, subst, Result, Ok, Err}
use Rattle.std.specs.Prelude.{IfOk, IfErr}
use Rattle.std.specs.List.{AllByRecursion}
use Rattle.line_engine.specs.Lines.{IsWithin, first_line, lines_of, max_line_bytes}
use Rattle.line_engine.specs.Runs.{Failures, Run, RunEnds, RunStandsAt, RunStops, Runs}
use Rattle.line_engine.specs.declared.run.RunCount.{RunCount}
use Rattle.line_engine.specs.declared.run.RunFault.{RunFault}
use Rattle.line_engine.specs.declared.run.RunFault.TheVariants.{OutOfMemory, TooManyLines, LineTooLong, ReadFailed, WriteFailed}
use Rattle.operating_db.specs.State.{StateValue}
use Rattle.checkpoint.specs.OfficeOf.{closed, office_of_lines, office_of_taken, with_lines}
use Rattle.checkpoint.specs.Parts.{PartsValue, no_parts}
use Rattle.checkpoint.specs.Reads.{Bytes, IsReadAs, IsRefused, IsStopped, StandsBefore}
use Rattle.checkpoint.specs.inner.IsParts.{IsParts}
use Rattle.checkpoint.specs.inner.Runs.{AreAllRead, TakesLine}
use Rattle.checkpoint.specs.inner.Steps.{Follows, IsFaultOf}
use Rattle.checkpoint.specs.declared.read_fault.ReadFault.{ReadFault}
use Rattle.checkpoint.specs.declared.read_fault.ReadFault.TheVariants.{Line, Unread, Run as run_fault}
use Rattle.checkpoint.specs.declared.reading.LinesSoFar.{LinesSoFar}
use Rattle.checkpoint.proofs.Complete.{exact}
use Rattle.checkpoint.proofs.Folding.{HasTaken, all_lines}
use Rattle.checkpoint.proofs.Sound.{no_parts_valid, steps}
use Rattle.checkpoint.proofs.Unread.{unread}

abbrev pub bytes_of : Run LinesSoFar → Failures → Bytes
bytes_of run failed = record { from = run.from; to = run.to; failed = failed.reader }

ended : (run : Run LinesSoFar) (failed : Failures) (r : Result RunCount RunFault) (count : RunCount) → Runs TakesLine run failed r → r ≡ Ok count → RunEnds TakesLine run count
ended run failed r count h is = let at : IfOk {E = RunFault} (Ok count) (RunEnds TakesLine run) = subst (λ (r : Result RunCount RunFault). IfOk r (RunEnds TakesLine run)) is h.ok in at

-- a run that came to its end has read all lines
pub all_read : (run : Run LinesSoFar) (failed : Failures) (r : Result RunCount RunFault) (count : RunCount) (networks : ℕ) (parts : Result PartsValue ReadFault) → Runs TakesLine run failed r → r ≡ Ok count
    → run.old.networks ≡ networks → run.old.parts ≡ Ok no_parts → run.new.parts ≡ parts → AreAllRead (bytes_of run failed) networks count.lines parts
all_read run failed r count networks parts ran is known begins made =
    let h : RunEnds TakesLine run count = ended run failed r count ran is in
    let start : Follows (Ok no_parts) run.old.parts = subst (Follows (Ok no_parts)) (sym begins) refl in
    let taken : HasTaken run.old run.new (with_lines run.old.networks 1 (Ok no_parts) (lines_of h.input)) = all_lines 1 run.old run.new (lines_of h.input) h.output count.refused (Ok no_parts) h.replies start in
    record {
      input = h.input;
      whole = record { consumed = h.consumed; ended = h.ended };
      counted = h.lines;
      few = h.few;
      follows = subst (λ (k : ℕ). Follows (with_lines k 1 (Ok no_parts) (lines_of h.input)) parts) known (subst (Follows (with_lines run.old.networks 1 (Ok no_parts) (lines_of h.input))) made taken.parts);
    }

-- ---- the parts

parts_taken : (bytes : Bytes) (networks lines : ℕ) (parts : PartsValue) (h : AreAllRead bytes networks lines (Ok parts)) → with_lines networks 1 (Ok no_parts) (lines_of h.input) ≡ Ok parts
parts_taken bytes networks lines parts h = h.follows

pub parts_valid : (bytes : Bytes) (networks lines : ℕ) (parts : PartsValue) → AreAllRead bytes networks lines (Ok parts) → IsParts networks parts
parts_valid bytes networks lines parts h = (steps networks 1 no_parts parts (lines_of h.input) (no_parts_valid networks) (parts_taken bytes networks lines parts h)).valid

office_is : (bytes : Bytes) (networks lines : ℕ) (parts : PartsValue) (h : AreAllRead bytes networks lines (Ok parts)) → office_of_lines networks (lines_of h.input) ≡ closed (lines + 1) parts parts.network parts.ended
unfolding office_of_lines
office_is bytes networks lines parts h =
    ap (office_of_taken (length (lines_of h.input) + 1)) (parts_taken bytes networks lines parts h) ∙ ap (λ (n : ℕ). closed (n + 1) parts parts.network parts.ended) (sym h.counted)

-- ---- the answer

is_read : (bytes : Bytes) (networks lines : ℕ) (parts : PartsValue) (state : StateValue) → AreAllRead bytes networks lines (Ok parts) → closed (lines + 1) parts parts.network parts.ended ≡ Ok state.office → state.networks ≡ networks
    → IsReadAs bytes networks state
is_read bytes networks lines parts state h done same =
    let office : office_of_lines networks (lines_of h.input) ≡ Ok state.office = office_is bytes networks lines parts h ∙ done in
    record { input = h.input; whole = h.whole; office = office; exact = exact networks (lines_of h.input) state.office office; networks_are = same }

is_cut : (bytes : Bytes) (networks lines : ℕ) (parts : PartsValue) (fault : ReadFault) → AreAllRead bytes networks lines (Ok parts) → IsFaultOf (closed (lines + 1) parts parts.network parts.ended) fault → IsRefused bytes networks fault
is_cut bytes networks lines parts (Line fault) h refused = (h.input, h.whole, office_is bytes networks lines parts h ∙ refused)
is_cut bytes networks lines parts (Unread n fault) h refused =
    let office : office_of_lines networks (lines_of h.input) ≡ Err (Unread n fault) = office_is bytes networks lines parts h ∙ refused in
    (h.input, h.whole, office, unread networks n (lines_of h.input) fault office)
is_cut bytes networks lines parts (run_fault fault) h refused = subst (IsStopped bytes) (sym refused) tt

pub is_refused : (bytes : Bytes) (networks lines : ℕ) (fault : ReadFault) → AreAllRead bytes networks lines (Err fault) → IsRefused bytes networks fault
unfolding office_of_lines
is_refused bytes networks lines (Line fault) h = (h.input, h.whole, ap (office_of_taken (length (lines_of h.input) + 1)) h.follows)
is_refused bytes networks lines (Unread n fault) h =
    let office : office_of_lines networks (lines_of h.input) ≡ Err (Unread n fault) = ap (office_of_taken (length (lines_of h.input) + 1)) h.follows in
    (h.input, h.whole, office, unread networks n (lines_of h.input) fault office)
is_refused bytes networks lines (run_fault fault) h = subst (IsStopped bytes) (sym h.follows) tt

abbrev stands : (run : Run LinesSoFar) (failed : Failures) (n : ℕ) → run.most ≡ max_line_bytes → RunStandsAt TakesLine run n → StandsBefore (bytes_of run failed) n
stands run failed n standard at =
    let short = subst (λ (most : ℕ). AllByRecursion (IsWithin most) at.lines) standard at.short in
    record { input = at.input; lines = at.lines; rest = at.rest; consumed = at.consumed; begins = at.begins; number = at.number; short = short }

stopped_at : (run : Run LinesSoFar) (failed : Failures) (fault : RunFault) → run.most ≡ max_line_bytes → RunStops TakesLine run failed fault → failed.writer ≡ false → IsStopped (bytes_of run failed) fault
stopped_at run failed OutOfMemory standard h healthy = tt
stopped_at run failed (TooManyLines n) standard h healthy = (stands run failed n standard h.0, h.1, h.2)
stopped_at run failed (LineTooLong n) standard h healthy = (stands run failed n standard h.0, h.1, subst (λ (most : ℕ). most < length (first_line h.0.rest)) standard h.2)
stopped_at run failed (ReadFailed n) standard h healthy = (stands run failed n standard h.0, h.2, h.3)
stopped_at run failed (WriteFailed n) standard h healthy = let failing : failed.writer ≡ true = h.5 in cc

pub is_stopped : (run : Run LinesSoFar) (failed : Failures) (r : Result RunCount RunFault) (fault : RunFault) → run.most ≡ max_line_bytes → Runs TakesLine run failed r → r ≡ Err fault → failed.writer ≡ false → IsStopped (bytes_of run failed) fault
is_stopped run failed r fault standard ran is healthy =
    let at : IfErr {T = RunCount} (Err fault) (RunStops TakesLine run failed) = subst (λ (r : Result RunCount RunFault). IfErr r (RunStops TakesLine run failed)) is ran.err in
    stopped_at run failed fault standard at healthy

-- ---- what closing the parts answers

pub read_if_ok : (bytes : Bytes) (networks lines : ℕ) (parts : PartsValue) (r : Result StateValue ReadFault) → AreAllRead bytes networks lines (Ok parts)
    → IfOk r (λ state. (closed (lines + 1) parts parts.network parts.ended ≡ Ok state.office) × (state.networks ≡ networks)) → IfOk r (IsReadAs bytes networks)
read_if_ok bytes networks lines parts (Ok state) h done = is_read bytes networks lines parts state h done.0 done.1
read_if_ok bytes networks lines parts (Err fault) h done = tt

pub refused_if_err : (bytes : Bytes) (networks lines : ℕ) (parts : PartsValue) (r : Result StateValue ReadFault) → AreAllRead bytes networks lines (Ok parts)
    → IfErr r (IsFaultOf (closed (lines + 1) parts parts.network parts.ended)) → IfErr r (IsRefused bytes networks)
refused_if_err bytes networks lines parts (Ok state) h refused = tt
refused_if_err bytes networks lines parts (Err fault) h refused = is_cut bytes networks lines parts fault h refused
