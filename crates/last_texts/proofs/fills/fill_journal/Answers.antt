use Rattle.last_texts.proofs.fills.fill_journal.Goals as goal

pub returns : goal.returns
returns g c = rw c.standard-limit.ensures at c.run_replies.ensures
