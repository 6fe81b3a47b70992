use Rattle.sessions.proofs.feeding.closed.Goals as goal

pub returns-in-Ok-clause-receipts : goal.returns-in-Ok-clause-receipts
returns-in-Ok-clause-receipts g c = rw c.into_parts-book.ensures.book c.in-Ok.ensures.receipts
