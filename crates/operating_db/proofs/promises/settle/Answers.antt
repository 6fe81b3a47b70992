use Rattle.operating_db.proofs.Changes.{among_promised}
use Rattle.operating_db.proofs.promises.settle.Goals as goal

pub fill-requires-clause-promised : goal.fill-requires-clause-promised
fill-requires-clause-promised c = among_promised c.args.number _ (rw c.in-Fills-Some.is-1 at c.requires)
