use Rattle.std.proofs.Common.{◌≡◌, ◌∙◌, Some, refl, ap}
use Rattle.std.proofs.lemmas.List.{with_items_is}
use Rattle.std.specs.Vec.{with_item, with_items}
use Rattle.commit_book.specs.declared.kept_problems.KeptProblem.{KeptProblem}
use Rattle.commit_book.specs.inner.Kept.{book_of, setting_of}
use Rattle.commit_book.proofs.BookParts.{index_within, put_kept, put_same}
use Rattle.commit_book.proofs.Books.{book_put}
use Rattle.commit_book.proofs.KeptTables.{book_fewer, shows_fewer}
use Rattle.commit_book.proofs.book.Book.put.Goals as goal

pub invariant_of-self : goal.invariant_of-self
invariant_of-self c =
    let within = index_within c.self.inside.kept.items c.args.index (rw (← c.self.view_is) at c.requires.kept) in
    let new : KeptProblem = record c.index_mut.result.now { made = Some c.args.made } in
    let setting = setting_of c.self.inside.ledger c.self.inside.networks.value c.self.inside.limits in
    let put = book_put setting c.self.inside.ledger.events c.self.inside.kept.items c.args.index new c.self.invariant.book
    (put_kept setting c.self.inside.ledger.events c.self.inside.kept.items c.args.index c.index_mut.result.now new c.args.made.value c.self.invariant.book within c.index_mut.ensures.value refl refl refl refl (rw (← c.self.view_is) at c.requires.table)) in
    let written : (with_items (with_item c.self.inside.kept c.args.index new) c.forget_tables.new.kept).items ≡ c.forget_tables.new.kept = with_items_is (with_item c.self.inside.kept c.args.index new) c.forget_tables.new.kept (c.forget_tables.auto.kept ∙ c.deref_mut.ensures.len) in
    record {
      counted = c.self.invariant.counted;
      book = rw written (book_fewer setting c.self.inside.ledger.events _ c.forget_tables.new.kept put (rw c.deref_mut.ensures.value at c.forget_tables.ensures.fewer));
    }

pub returns : goal.returns
returns c =
    let within = index_within c.self.inside.kept.items c.args.index (rw (← c.self.view_is) at c.requires.kept) in
    let new : KeptProblem = record c.index_mut.result.now { made = Some c.args.made } in
    let written : (with_items (with_item c.self.inside.kept c.args.index new) c.forget_tables.new.kept).items ≡ c.forget_tables.new.kept = with_items_is (with_item c.self.inside.kept c.args.index new) c.forget_tables.new.kept (c.forget_tables.auto.kept ∙ c.deref_mut.ensures.len) in
    ap (book_of c.self.inside.ledger c.self.inside.networks.value c.self.inside.limits) written
    ∙ shows_fewer c.self.inside.ledger c.self.inside.networks.value c.self.inside.limits _ c.forget_tables.new.kept (rw c.deref_mut.ensures.value at c.forget_tables.ensures.fewer)
    ∙ put_same c.self.inside.ledger c.self.inside.networks.value c.self.inside.limits c.self.inside.kept.items c.args.index c.index_mut.result.now new within c.index_mut.ensures.value refl
    ∙ c.self.view_is
