use Rattle.std.proofs.Common.{ap}
use Rattle.table_lines.specs.Checking.{ToPlans}
use Rattle.wagons_program.proofs.Outcomes.{are_answered, are_stopped, status_of_ended, why_of_stopped}
use Rattle.wagons_program.proofs.check.check_lines.Goals as goal

pub returns-clause-ok : goal.returns-clause-ok
returns-clause-ok g c =
    status_of_ended _ c.check_run.result _ _ c.status_of_run.ensures c.check_run.ensures.ok
    (λ count ends. (tt, are_answered ToPlans _ _ _ (ap g.I.Read.remaining c.new-reader.ensures.device) count ends))

pub returns-clause-err : goal.returns-clause-err
returns-clause-err g c =
    why_of_stopped _ c.check_run.result _ _ c.status_of_run.ensures c.check_run.ensures.err
    (λ fault stops. (tt, are_stopped ToPlans _ _ _ (ap g.I.Read.remaining c.new-reader.ensures.device) _ fault stops))
