use Rattle.commit_book.proofs.ledger.Ledger.enter.Goals as goal

pub make_room-requires : goal.make_room-requires
make_room-requires c = rw c.self.invariant.replayed (rw (← c.self.view_is) at c.requires.promised)

pub apply-requires : goal.apply-requires
apply-requires c = rw (c.self.invariant.replayed, c.deref.ensures, c.in_ok-kept.ensures) (rw (← c.self.view_is) at c.requires.promised)
