use Rattle.std.proofs.Common.{sym}
use Rattle.commit_book.proofs.BookParts.{parts_pushed}
use Rattle.commit_book.proofs.book.Book.enter_message.Goals as goal

pub invariant_of-self-in-Entered : goal.invariant_of-self-in-Entered
invariant_of-self-in-Entered c =
    let entered = rw c.in-Entered.is at c.in_ok-enter_message.ensures in
    rw entered.2 (parts_pushed c.self.inside.ledger c.self.inside.networks.value c.self.inside.limits c.self.inside.kept.items _ c.self.invariant tt entered.0 (rw (← c.self.view_is) at (sym c.if-is_full.ensures)) entered.1)
