use Rattle.std.proofs.Common.{◌≡◌, ◌∙◌, arith, sym}
use Rattle.std.proofs.lemmas.Bool.Decides.{nat_tests}
use Rattle.commit_book.proofs.BookParts.{index_within, taken}
use Rattle.commit_book.proofs.book.Book.is_made_of.Goals as goal
use Rattle.commit_book.proofs.book.Book.is_made_of.Goals.{then-is_none, else-is_none}

pub returns-then-kept-made : goal.returns-then-kept-made
returns-then-kept-made c = λ same.
    let within = index_within c.self.inside.kept.items c.args.index (rw (← c.self.view_is) at c.requires.kept) in
    let network : c.index-kept.result.now.network ≡ c.args.made.now.network = elim c.if-is_none.branch [
      | then-is_none w ↦ grind (arith, nat_tests, w.value-is, c.if-kept-made.true)
      | else-is_none w ↦ grind (arith, w.value-is, c.if-kept-made.true)
    ] in
    rw (← c.self.view_is) (taken _ c.self.inside.ledger.events c.self.inside.kept.items c.args.index c.index-kept.result.now c.args.made.now c.self.invariant.book within c.index-kept.ensures (rw (← c.self.view_is) at c.requires.made) network
    (sym c.problem.ensures ∙ c.is_same_problem.ensures same))
