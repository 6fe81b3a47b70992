use Rattle.std.proofs.Common.{◌∙◌}
use Rattle.commit_book.proofs.IdKeys.{number_order}
use Rattle.commit_book.proofs.id_key.IdKeyOrd.cmp.Goals as goal

pub returns : goal.returns
returns c = rw (← c.self.view_is, ← c.other.view_is) (c.order_of.ensures ∙ number_order c.self.inside.number c.other.inside.number c.self.invariant c.other.invariant)
