use Rattle.std.proofs.Common.{arith}
use Rattle.std.proofs.lemmas.Option.{slice_get_within}
use Rattle.commit_book.proofs.book.Book.answer_known.Goals as goal

pub overflow_add-result : goal.overflow_add-result
overflow_add-result c =
    let within = rw (← c.self.view_is) at (slice_get_within c.args.self.now.state.history c.args.index _ c.requires.there) in
    let legal = c.self.invariant.book.legal.within in
    let few = c.for_the_prover.ensures.few_entries in
    omega (arith, within, legal, few)
