use Rattle.office.proofs.Histories.{led_by_run}
use Rattle.office.proofs.command_lines.run.Goals as goal

pub returns-clause-calls : goal.returns-clause-calls
returns-clause-calls g c = led_by_run _ _ c.run_lines-count.result c.run_lines-count.ensures

pub returns-clause-replies : goal.returns-clause-replies
returns-clause-replies g c = rw c.standard-limit.ensures at c.run_lines-count.ensures
