use Rattle.std.proofs.Common.{ap}
use Rattle.office.specs.CommandReplies.{ToCommands}
use Rattle.wagons_program.proofs.Outcomes.{are_answered, are_stopped, status_of_ended, why_of_stopped}
use Rattle.wagons_program.proofs.bringing.bring_lines.Goals as goal

pub returns-clause-ok : goal.returns-clause-ok
returns-clause-ok g c =
    status_of_ended _ c.run.result _ _ c.status_of_run.ensures c.run.ensures.replies.ok
    (λ count ends. are_answered ToCommands _ _ _ (ap g.I.Read.remaining c.new-reader.ensures.device) count ends)

pub returns-clause-err : goal.returns-clause-err
returns-clause-err g c =
    why_of_stopped _ c.run.result _ _ c.status_of_run.ensures c.run.ensures.replies.err
    (λ fault stops. are_stopped ToCommands _ _ _ (ap g.I.Read.remaining c.new-reader.ensures.device) _ fault stops)
