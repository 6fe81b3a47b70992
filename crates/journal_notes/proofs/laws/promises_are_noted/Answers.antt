use Rattle.journal_notes.proofs.Told.{told}
use Rattle.journal_notes.proofs.laws.promises_are_noted.Goals as goal

pub returns : goal.returns
returns c = told
