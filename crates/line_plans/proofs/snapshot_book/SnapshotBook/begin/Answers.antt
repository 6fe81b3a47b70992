use Rattle.std.proofs.Common.{◌∙◌, List, sym, ap, subst}
use Rattle.commit_book.specs.Setting.{Setting}
use Rattle.price_checker.specs.Snap.{SnapValue}
use Rattle.line_plans.specs.inner.Remembered.{AreRemembered, with_snap}
use Rattle.line_plans.proofs.Remembering.{begun}
use Rattle.line_plans.proofs.snapshot_book.SnapshotBook.begin.Goals as goal

pub invariant_of-self-2 : goal.invariant_of-self-2
invariant_of-self-2 c =
    let book = c.self.inside.book in
    let new = c.begin.new.self in
    let snap = c.in_ok-snap.snap in
    let most = c.kept.ensures.value ∙ c.self.invariant.limits_are in
    let remembered = begun book.setting book.state new.state c.self.inside.snaps.items c.kept.result c.args.at snap.version snap c.self.invariant.remembered most c.in_ok-snap.ensures.snap c.in_ok-snap.ensures.call in
    let are = c.remember.ensures ∙ ap (λ (snaps : List SnapValue). with_snap c.kept.result snaps snap) c.reserve.ensures.items in
    record {
      limits_are = c.self.invariant.limits_are ∙ sym (ap (λ (setting : Setting). setting.kept) c.begin.ensures.setting);
      remembered =
          subst (λ (setting : Setting). AreRemembered setting new.state c.remember.new.snaps.items) (sym c.begin.ensures.setting)
          (subst (AreRemembered book.setting new.state) (sym are) remembered);
    }
