use Rattle.std.proofs.Common.{◌≡◌, true, false}
use Rattle.std.specs.Prelude.{is_some, option_copied}
use Rattle.line_plans.specs.inner.Remembered.{found_of, which_of_snap}
use Rattle.line_plans.proofs.KeptKeys.{known_snap, new_snap}
use Rattle.line_plans.proofs.snapshots.remember.Goals as goal

pub returns-then-is_none : goal.returns-then-is_none
returns-then-is_none c =
    let found : option_copied c.find_snap.result ≡ found_of c.args.snaps.now.items (which_of_snap c.args.snap) = cc in
    let none : is_some c.find_snap.result ≡ false = c.if-is_none.ensures in
    new_snap c.args.most c.args.snaps.now.items c.push.new.snaps.items c.args.snap c.find_snap.result found none c.push.ensures

pub returns-else-is_none : goal.returns-else-is_none
returns-else-is_none c =
    let found : option_copied c.find_snap.result ≡ found_of c.args.snaps.now.items (which_of_snap c.args.snap) = cc in
    let some : is_some c.find_snap.result ≡ true = c.if-is_none.ensures in
    known_snap c.args.most c.args.snaps.now.items c.args.snap c.find_snap.result found some
