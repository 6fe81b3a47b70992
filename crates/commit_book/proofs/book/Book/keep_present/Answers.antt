use Rattle.commit_book.proofs.BookParts.{parts_kept}
use Rattle.commit_book.proofs.book.Book.keep_present.Goals as goal

pub invariant_of-self : goal.invariant_of-self
invariant_of-self c = rw c.in_err-index.ensures.unchanged c.self.invariant

pub invariant_of-self-2 : goal.invariant_of-self-2
invariant_of-self-2 c =
    rw c.in_ok-index.ensures.kept (parts_kept c.self.inside.ledger c.self.inside.networks.value c.self.inside.limits c.self.inside.kept.items _ c.in_ok-one.one c.self.invariant (rw (← c.self.view_is) at c.in_ok-one.ensures.kept))
