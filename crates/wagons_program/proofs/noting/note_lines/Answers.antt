use Rattle.std.proofs.Common.{ap}
use Rattle.journal_notes.specs.NotedJournal.{WritesNotes}
use Rattle.wagons_program.proofs.Outcomes.{are_answered, are_stopped, status_of_ended, why_of_stopped}
use Rattle.wagons_program.proofs.noting.note_lines.Goals as goal

pub returns-clause-ok : goal.returns-clause-ok
returns-clause-ok g c =
    status_of_ended _ c.note_journal.result _ _ c.status_of_run.ensures c.note_journal.ensures.ok
    (λ count ends. are_answered WritesNotes _ _ _ (ap g.I.Read.remaining c.new-reader.ensures.device) count ends)

pub returns-clause-err : goal.returns-clause-err
returns-clause-err g c =
    why_of_stopped _ c.note_journal.result _ _ c.status_of_run.ensures c.note_journal.ensures.err
    (λ fault stops. are_stopped WritesNotes _ _ _ (ap g.I.Read.remaining c.new-reader.ensures.device) _ fault stops)
