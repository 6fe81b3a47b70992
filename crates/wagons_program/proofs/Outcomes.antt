-- From what a run over lines has done to the status of the program.
use Rattle.std.proofs.Common.{◌≡◌, ◌⊎◌, ℕ, List, Option, Result, Ok, Err, IfOk, IfErr, inl, inr, refl, subst}
use Rattle.line_engine.specs.Replies.{Replying}
use Rattle.line_engine.specs.Runs.{Failures, Run, RunEnds, RunStops}
use Rattle.line_engine.specs.declared.run.RunCount.{RunCount}
use Rattle.line_engine.specs.declared.run.RunFault.{RunFault}
use Rattle.office_files.specs.declared.stop.Stop.{Stop}
use Rattle.office_files.specs.declared.stop.Stop.TheVariants as stop
use Rattle.office_files.specs.declared.stopped.Stopped.{Stopped}
use Rattle.wagons_program.specs.Brought.{AreAnswered, AreStopped, Lines, run_of}
use Rattle.wagons_program.specs.Status.{exit_status, outcome_of_run, status_of_count}

-- what holds of a status holds of the same one with what people are told of a stop
pub ok_kept : {E G : Type 0} (outcome : Result ℕ E) (result : Result ℕ G) (P : ℕ → Type 0) → IfOk outcome P → IfOk result (λ status. outcome ≡ Ok status) → IfOk result P
ok_kept outcome (Err told) P holds same = tt
ok_kept outcome (Ok status) P holds same = rw same at holds

-- what holds of a stop holds of the same one with what people are told
pub err_kept : {A B : Type 0} (outcome : Result A Stop) (result : Result B Stopped) (P : Stop → Type 0) → IfErr outcome P → IfErr result (λ stopped. outcome ≡ Err stopped.stop) → IfErr result (λ stopped. P stopped.stop)
err_kept outcome (Ok status) P holds same = tt
err_kept outcome (Err told) P holds same = rw same at holds

-- the program's status is that of a word that came to its end, or 2
pub exit_of_word : (outcome : Result ℕ Stopped) (status : ℕ) (Done : ℕ → Type 0) (Undone : Stop → Type 0) → status ≡ exit_status outcome → IfOk outcome Done
    → IfErr outcome (λ stopped. Undone stopped.stop) → Done status ⊎ ((status ≡ 2) × (why : Stop) × Undone why)
exit_of_word (Ok ended) status Done Undone is done undone = inl (rw is done)
exit_of_word (Err stopped) status Done Undone is done undone = inr (is, stopped.stop, undone)

-- a run that came to its end
pub status_of_ended : (result : Result ℕ Stop) (count : Result RunCount RunFault) (P : RunCount → Type 0) (Q : ℕ → Type 0) → result ≡ outcome_of_run count → IfOk count P
    → ((n : RunCount) → P n → Q (status_of_count n)) → IfOk result Q
status_of_ended result (Ok n) P Q is ended status = rw is (status n ended)
status_of_ended result (Err fault) P Q is ended status = rw is tt

-- a run that stopped
pub why_of_stopped : (result : Result ℕ Stop) (count : Result RunCount RunFault) (P : RunFault → Type 0) (Q : Stop → Type 0) → result ≡ outcome_of_run count → IfErr count P
    → ((fault : RunFault) → P fault → Q (stop.Run fault)) → IfErr result Q
why_of_stopped result (Ok n) P Q is stopped why = rw is tt
why_of_stopped result (Err fault) P Q is stopped why = rw is (why fault stopped)

-- what holds of a run by a reader that was made for the input
pub of_run : {H : Type 0} (lines : Lines H) (left from : Option (List ℕ)) (read : from ≡ lines.given.input) (P : Run H → Type 0)
    → P (record { most = lines.most; from = from; to = left; held = lines.given.held; holds = lines.given.holds; old = lines.old; new = lines.new }) → P (run_of lines left)
of_run lines left from read P made =
    subst (λ (o : Option (List ℕ)). P (record { most = lines.most; from = o; to = left; held = lines.given.held; holds = lines.given.holds; old = lines.old; new = lines.new })) read made

module _ {H : Type 0} (replying : Replying H) (lines : Lines H) (left from : Option (List ℕ)) (read : from ≡ lines.given.input) where
  pub are_answered : (count : RunCount) → RunEnds replying (record { most = lines.most; from = from; to = left; held = lines.given.held; holds = lines.given.holds; old = lines.old; new = lines.new }) count
      → AreAnswered replying lines (status_of_count count)
  are_answered count ends = record {
    left = left;
    count = count;
    ends = of_run lines left from read (λ run. RunEnds replying run count) ends;
    status_is = refl;
  }

  pub are_stopped : (failed : Failures) (fault : RunFault)
      → RunStops replying (record { most = lines.most; from = from; to = left; held = lines.given.held; holds = lines.given.holds; old = lines.old; new = lines.new }) failed fault → AreStopped replying lines (stop.Run fault)
  are_stopped failed fault stops = record {
    left = left;
    failed = failed;
    fault = fault;
    stops = of_run lines left from read (λ run. RunStops replying run failed fault) stops;
    why_is = refl;
  }
