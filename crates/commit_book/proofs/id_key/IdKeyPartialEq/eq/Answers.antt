use Rattle.commit_book.proofs.Ids.{id_ties}
use Rattle.commit_book.proofs.id_key.IdKeyPartialEq.eq.Goals as goal

pub returns : goal.returns
returns c = rw (c.is_eq.ensures, c.cmp.ensures) (id_ties c.args.self.now c.args.other.now)
