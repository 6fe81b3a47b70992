use Rattle.office.proofs.noted_runs.run_noted.Goals as goal

pub returns : goal.returns
returns g c = rw c.standard-limit.ensures at c.run_replies.ensures
