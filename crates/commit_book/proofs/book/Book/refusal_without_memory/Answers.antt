use Rattle.commit_book.proofs.book.Book.refusal_without_memory.Goals as goal

pub refusal_without_memory-requires : goal.refusal_without_memory-requires
refusal_without_memory-requires c = rw c.self.invariant.counted (rw (← c.self.view_is) at c.requires)
