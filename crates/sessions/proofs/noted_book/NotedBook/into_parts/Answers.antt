use Rattle.sessions.proofs.KeptLines.{feed_notes}
use Rattle.sessions.proofs.noted_book.NotedBook.into_parts.Goals as goal

pub returns-in-Some-clause-notes : goal.returns-in-Some-clause-notes
returns-in-Some-clause-notes c = feed_notes c.args.self.book c.in-Some.kept c.into_notes.result c.into_notes.ensures.text c.into_notes.ensures.lost (c.args.self.kept c.in-Some.kept c.in-Some.is)
