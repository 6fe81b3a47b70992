use Rattle.std.proofs.Common.{ℕ, ap, ◌∙◌}
use Rattle.std.specs.Prelude.{position}
use Rattle.commit_book.specs.BookStep.{is_this}
use Rattle.commit_book.specs.inner.Kept.{which_of}
use Rattle.commit_book.proofs.BookParts.{index_found_there, index_not_found}
use Rattle.commit_book.proofs.book.Book.index_of_kept.Goals as goal

pub returns-clause-found : goal.returns-clause-found
returns-clause-found c =
    let which : ℕ × ℕ = (c.args.version, c.args.at) in
    rw (← c.self.view_is) (index_found_there c.self.inside.kept.items which c.index_of_kept.result (c.index_of_kept.ensures ∙ ap (λ ks. position (λ one. is_this which (which_of one)) ks) c.deref.ensures.value))

pub returns-clause-none : goal.returns-clause-none
returns-clause-none c =
    let which : ℕ × ℕ = (c.args.version, c.args.at) in
    rw (← c.self.view_is) (index_not_found c.self.inside.kept.items which c.index_of_kept.result (c.index_of_kept.ensures ∙ ap (λ ks. position (λ one. is_this which (which_of one)) ks) c.deref.ensures.value))
