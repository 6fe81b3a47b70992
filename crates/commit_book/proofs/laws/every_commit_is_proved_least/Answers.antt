use Rattle.commit_book.proofs.Runs.{headline}
use Rattle.commit_book.proofs.laws.every_commit_is_proved_least.Goals as goal

pub returns : goal.returns
returns c = headline
