use Rattle.std.proofs.Common.{◌≡◌, None, refl}
use Rattle.std.proofs.lemmas.Result.{err_from_is_err_and}
use Rattle.commit_book.specs.inner.Noted.{index_in}
use Rattle.commit_book.proofs.NotedIds.{above_missing}
use Rattle.commit_book.proofs.rising_ids.RisingIds.enter.Goals as goal

pub returns-in_err-push-clause-fresh : goal.returns-in_err-push-clause-fresh
returns-in_err-push-clause-fresh c =
    let none : index_in c.args.self.now c.args.note.number ≡ None = rw (← c.self.view_is) (above_missing c.self.inside.notes.items c.args.note.number (rw c.deref.ensures.value at (c.if-not-are_below.ensures refl))) in
    let refused = err_from_is_err_and c.from_residual.result c.from_residual.ensures.1 in
    rw refused.1 none

pub returns-clause-entered : goal.returns-clause-entered
returns-clause-entered c =
    let none : index_in c.args.self.now c.args.note.number ≡ None = rw (← c.self.view_is) (above_missing c.self.inside.notes.items c.args.note.number (rw c.deref.ensures.value at (c.if-not-are_below.ensures refl))) in
    (none, rw (← c.self.view_is) c.in_ok-push.ensures.items)
