use Rattle.std.proofs.Common.{ap}
use Rattle.office.specs.NotedRuns.{WritesBoth}
use Rattle.wagons_program.proofs.NotedRuns.{answered, stopped}
use Rattle.wagons_program.proofs.Outcomes.{are_answered, are_stopped, status_of_ended, why_of_stopped}
use Rattle.wagons_program.proofs.run.note_lines.Goals as goal

pub returns-clause-ok : goal.returns-clause-ok
returns-clause-ok g c =
    status_of_ended _ c.run_noted.result _ _ c.status_of_run.ensures c.run_noted.ensures.ok
    (λ count ends. are_answered (WritesBoth g.N.Sink) _ _ _ (ap g.I.Read.remaining c.new-reader.ensures.device) count ends)

pub returns-clause-replies : goal.returns-clause-replies
returns-clause-replies g c =
    status_of_ended _ c.run_noted.result _ _ c.status_of_run.ensures c.run_noted.ensures.ok
    (λ count ends. answered g.N.Sink _ _ (are_answered (WritesBoth g.N.Sink) _ _ _ (ap g.I.Read.remaining c.new-reader.ensures.device) count ends))

pub returns-clause-err : goal.returns-clause-err
returns-clause-err g c =
    why_of_stopped _ c.run_noted.result _ _ c.status_of_run.ensures c.run_noted.ensures.err
    (λ fault stops. stopped g.N.Sink _ _ (are_stopped (WritesBoth g.N.Sink) _ _ _ (ap g.I.Read.remaining c.new-reader.ensures.device) _ fault stops))
