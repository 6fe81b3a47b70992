use Rattle.std.proofs.Common.{sym}
use Rattle.commit_book.proofs.BookParts.{parts_pushed}
use Rattle.commit_book.proofs.book.Book.enter.Goals as goal

pub invariant_of-self-2 : goal.invariant_of-self-2
invariant_of-self-2 c =
    rw c.in_ok-enter.ensures.entered (parts_pushed c.self.inside.ledger c.self.inside.networks.value c.self.inside.limits c.self.inside.kept.items c.args.event c.self.invariant
    (rw (← c.self.view_is) at c.requires.promised) (rw (← c.self.view_is) at c.requires.owed) (rw (← c.self.view_is) at (sym c.if-is_full.ensures)) c.in_ok-enter.ensures.possible)
