use Rattle.wagons_program.proofs.NotedRuns.{brought, failed, not_brought, written}
use Rattle.wagons_program.proofs.run.run_with_notes.Goals as goal

pub returns-in-Ok-clause-ok : goal.returns-in-Ok-clause-ok
returns-in-Ok-clause-ok g c = brought _ _ _ c.in_ok-noted.noted _ _ c.end_noted.result c.in_ok-noted.ensures c.in-Ok.ensures.replies c.end_noted.ensures.ok

pub returns-in-Ok-clause-notes : goal.returns-in-Ok-clause-notes
returns-in-Ok-clause-notes g c = written _ _ _ _ c.in_ok-noted.noted _ _ c.end_noted.result c.in_ok-noted.ensures c.in-Ok.ensures.ok c.end_noted.ensures.ok c.end_noted.ensures.written

pub returns-in-Ok-clause-err : goal.returns-in-Ok-clause-err
returns-in-Ok-clause-err g c = failed _ _ _ c.in_ok-noted.noted _ _ c.end_noted.result c.in_ok-noted.ensures c.in-Ok.ensures.replies c.end_noted.ensures.err

pub returns-in-Err-clause-err : goal.returns-in-Err-clause-err
returns-in-Err-clause-err g c = not_brought _ _ _ c.in_ok-noted.noted _ _ c.in_ok-noted.ensures c.in-Err.ensures.err
