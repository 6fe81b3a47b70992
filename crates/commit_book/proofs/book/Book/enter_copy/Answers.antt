use Rattle.commit_book.proofs.BookCalls.{commit_call, commit_wants}
use Rattle.commit_book.proofs.book.Book.enter_copy.Goals as goal

pub enter-requires-clause-promised : goal.enter-requires-clause-promised
enter-requires-clause-promised c = rw c.in-Ok.ensures c.requires.promised

pub returns-in-Ok-clause-call : goal.returns-in-Ok-clause-call
returns-in-Ok-clause-call c = commit_call c.args.self.now.setting c.args.self.now.state c.args.commit.now _ _ c.requires (rw c.in-Ok.ensures at c.enter.ensures.entered)

pub returns-in-Err-clause-call : goal.returns-in-Err-clause-call
returns-in-Err-clause-call c = commit_wants c.args.self.now.setting c.args.self.now.state c.args.commit.now c.requires
