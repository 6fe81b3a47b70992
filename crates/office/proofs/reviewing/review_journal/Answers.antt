use Rattle.office.proofs.reviewing.review_journal.Goals as goal

pub returns : goal.returns
returns g c = rw c.standard-limit.ensures at c.run_replies.ensures
