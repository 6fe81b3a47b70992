use Rattle.std.proofs.Common.{◌≡◌, ◌≤◌, ◌∙◌, List, length, true, sym, ap, subst}
use Rattle.std.specs.Prelude.{IfOk, option_copied}
use Rattle.commit_book.specs.BookStep.{is_kept}
use Rattle.commit_book.specs.Books.{BookValue}
use Rattle.price_checker.specs.Snap.{SnapValue}
use Rattle.line_plans.specs.Plans.{snap_at, which_of}
use Rattle.line_plans.specs.inner.Remembered.{found_of}
use Rattle.line_plans.proofs.KeptKeys.{found_snap, found_there}
use Rattle.line_plans.proofs.snapshot_book.SnapshotBook.snap.Goals as goal

pub unwrap-requires : goal.unwrap-requires
unwrap-requires c =
    let book = c.self.inside.book in
    let known = subst (λ (b : BookValue). is_kept b.state.kept (which_of c.args.key) ≡ true) (sym c.self.view_is) c.requires in
    let found = c.find_snap.ensures ∙ ap (λ (snaps : List SnapValue). found_of snaps (which_of c.args.key)) c.deref.ensures.value in
    found_there book.setting book.state c.self.inside.snaps.items (which_of c.args.key) c.find_snap.result c.self.invariant.remembered known found

pub returns-clause-had : goal.returns-clause-had
returns-clause-had c =
    let book = c.self.inside.book in
    let found = c.find_snap.ensures ∙ ap (λ (snaps : List SnapValue). found_of snaps (which_of c.args.key)) c.deref.ensures.value in
    let there = sym found ∙ ap (λ o. option_copied o) c.unwrap.ensures in
    let is = found_snap book.setting book.state.history c.self.inside.snaps.items c.args.key.version c.args.key.at c.unwrap.result.now c.self.invariant.remembered.each there in
    subst (λ (b : BookValue). c.args.key.version ≤ length b.state.history) c.self.view_is is.had

pub returns-clause-snap : goal.returns-clause-snap
returns-clause-snap c =
    let book = c.self.inside.book in
    let found = c.find_snap.ensures ∙ ap (λ (snaps : List SnapValue). found_of snaps (which_of c.args.key)) c.deref.ensures.value in
    let there = sym found ∙ ap (λ o. option_copied o) c.unwrap.ensures in
    let is = found_snap book.setting book.state.history c.self.inside.snaps.items c.args.key.version c.args.key.at c.unwrap.result.now c.self.invariant.remembered.each there in
    let of_book = is.is_snap ∙ ap (λ (b : BookValue). snap_at b.setting b.state.history c.args.key.version c.args.key.at) c.self.view_is in
    subst (λ (snap : SnapValue). IfOk c.copy_of.result (λ copy. copy ≡ snap)) of_book c.copy_of.ensures
