use Rattle.std.proofs.Common.{ap}
use Rattle.table_lines.specs.Solving.{ToTables}
use Rattle.wagons_program.proofs.Outcomes.{are_answered, are_stopped, status_of_ended, why_of_stopped}
use Rattle.wagons_program.proofs.solve.solve_lines.Goals as goal

pub returns-clause-ok : goal.returns-clause-ok
returns-clause-ok g c =
    status_of_ended _ c.solve_run.result _ _ c.status_of_run.ensures c.solve_run.ensures.ok
    (λ count ends. (c.args.limit, are_answered ToTables _ _ _ (ap g.I.Read.remaining c.new-reader.ensures.device) count ends))

pub returns-clause-err : goal.returns-clause-err
returns-clause-err g c =
    why_of_stopped _ c.solve_run.result _ _ c.status_of_run.ensures c.solve_run.ensures.err
    (λ fault stops. (c.args.limit, are_stopped ToTables _ _ _ (ap g.I.Read.remaining c.new-reader.ensures.device) _ fault stops))
