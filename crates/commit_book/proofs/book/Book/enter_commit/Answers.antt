use Rattle.commit_book.proofs.BookCalls.{commit_call}
use Rattle.commit_book.proofs.book.Book.enter_commit.Goals as goal

pub enter-requires-clause-promised : goal.enter-requires-clause-promised
enter-requires-clause-promised c = rw c.judged.ensures.book c.in-Ok.ensures.accepted.promised

pub returns-in-Ok-clause-call : goal.returns-in-Ok-clause-call
returns-in-Ok-clause-call c = commit_call c.args.self.now.setting c.args.self.now.state c.args.commit _ _ c.in-Ok.ensures.accepted (rw c.judged.ensures.book at c.enter.ensures.entered)
