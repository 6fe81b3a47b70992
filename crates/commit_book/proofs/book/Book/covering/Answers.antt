use Rattle.std.proofs.Common.{◌∙◌, sym, ap}
use Rattle.std.specs.List.{find}
use Rattle.commit_book.specs.inner.Kept.{IsTabled, is_covering}
use Rattle.commit_book.proofs.BookParts.{tabled_as}
use Rattle.commit_book.proofs.Books.{covering_tabled}
use Rattle.commit_book.proofs.book.Book.covering.Goals as goal

pub returns-in-Some : goal.returns-in-Some
returns-in-Some c =
    let found = sym (c.in-Some.ensures ∙ ap (λ ks. find (is_covering c.args.version c.args.at) ks) c.deref.ensures.value) in
    rw (← c.self.view_is) (tabled_as (IsTabled _ c.self.inside.ledger.events c.args.version c.args.at) c.in-Some.kept.now c.as_ref.result c.as_ref.ensures.value
    (λ made has. covering_tabled _ c.self.inside.ledger.events c.self.inside.kept.items c.args.version c.args.at c.in-Some.kept.now made c.self.invariant.book found has))
