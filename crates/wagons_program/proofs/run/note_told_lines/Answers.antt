use Rattle.wagons_program.proofs.Outcomes.{err_kept, ok_kept}
use Rattle.wagons_program.proofs.run.note_told_lines.Goals as goal

pub returns-clause-ok : goal.returns-clause-ok
returns-clause-ok g c = ok_kept c.note_lines-outcome.result c.told_of_lines.result _ c.note_lines-outcome.ensures.ok c.told_of_lines.ensures.ok

pub returns-clause-replies : goal.returns-clause-replies
returns-clause-replies g c = ok_kept c.note_lines-outcome.result c.told_of_lines.result _ c.note_lines-outcome.ensures.replies c.told_of_lines.ensures.ok

pub returns-clause-err : goal.returns-clause-err
returns-clause-err g c = err_kept c.note_lines-outcome.result c.told_of_lines.result _ c.note_lines-outcome.ensures.err c.told_of_lines.ensures.err
