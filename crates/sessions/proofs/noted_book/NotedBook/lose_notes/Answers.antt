use Rattle.sessions.proofs.KeptLines.{notes_lost}
use Rattle.sessions.proofs.noted_book.NotedBook.lose_notes.Goals as goal

pub invariant_of-self : goal.invariant_of-self
invariant_of-self c = record {
  kept = notes_lost c.args.self.now.book c.args.self.now.notes c.in-Some.kept c.lose.new.self c.args.self.now.kept c.in-Some.is c.lose.ensures;
}
