use Rattle.sessions.proofs.Receipts.{receipts_agree, receipts_are_the_history}
use Rattle.sessions.proofs.laws.receipts_are_the_history.Goals as goal

pub returns-clause-agree : goal.returns-clause-agree
returns-clause-agree c = receipts_agree

pub returns-clause-history : goal.returns-clause-history
returns-clause-history c = receipts_are_the_history
