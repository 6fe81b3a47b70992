use Rattle.std.proofs.Math.Logic.{∥∥₁_map}
use Rattle.commit_book.specs.Books.{begun_of}
use Rattle.sessions.proofs.KeptLines.{kept_begun}
use Rattle.sessions.proofs.noted_book.NotedBook.begin.Goals as goal

pub invariant_of-self : goal.invariant_of-self
invariant_of-self c = record {
  kept = λ kept is. ∥∥₁_map (c.args.self.now.kept kept is) (kept_begun c.args.self.now.book c.begin.new.self kept c.args.at (record { answer = begun_of c.begin.result; call = c.begin.ensures.call; setting = c.begin.ensures.setting }));
}
