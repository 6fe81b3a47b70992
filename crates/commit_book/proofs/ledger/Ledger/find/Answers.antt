use Rattle.std.proofs.Common.{◌∙◌}
use Rattle.commit_book.proofs.Ids.{is_found, is_new}
use Rattle.commit_book.proofs.ledger.Ledger.find.Goals as goal

pub returns-clause-found : goal.returns-clause-found
returns-clause-found c =
    rw (← c.self.view_is) (is_found c.args.id c.self.inside.events.items c.index_of.result (c.index_of.ensures ∙ c.self.invariant.indexed c.args.id))

pub returns-clause-fresh : goal.returns-clause-fresh
returns-clause-fresh c =
    rw (← c.self.view_is) (is_new c.args.id c.self.inside.events.items c.index_of.result (c.index_of.ensures ∙ c.self.invariant.indexed c.args.id))
