use Rattle.std.proofs.Common.{refl, sym}
use Rattle.fleet_rows.specs.Rows.{with_promise}
use Rattle.fleet_rows.proofs.Wagons.{change_is, light_at, missing_stays, read_row, rows_with, still_possible}
use Rattle.fleet_rows.proofs.wagon_rows.WagonRows.set_promise.Goals as goal

pub set-requires-clause-valid : goal.set-requires-clause-valid
set-requires-clause-valid c =
    let (at, named) = read_row c.self.inside.rows.items c.in-Some.index c.args.number c.index.result.now (rw c.deref.ensures.value at c.in-Some.ensures.found) c.index.ensures in
    let possible =
    still_possible c.self.inside.rows.items c.in-Some.index c.index.result.now c.args.number c.args.promise c.self.invariant.kept at named (rw (← c.self.view_is) at c.requires) in
    rw (← c.self.view_is) (rows_with c.self.inside.rows.items c.in-Some.index c.index.result.now (with_promise c.args.promise c.index.result.now) c.self.invariant.kept at refl (light_at c.self.inside.rows.items c.in-Some.index c.index.result.now c.self.invariant.kept at) possible)

pub returns-in-Some : goal.returns-in-Some
returns-in-Some c =
    let (at, named) = read_row c.self.inside.rows.items c.in-Some.index c.args.number c.index.result.now (rw c.deref.ensures.value at c.in-Some.ensures.found) c.index.ensures in
    rw c.set.ensures (rw (← c.self.view_is) (change_is c.self.inside.rows.items c.in-Some.index c.index.result.now c.args.number (with_promise c.args.promise) c.self.invariant.kept.ascending at named))

pub returns-in_default : goal.returns-in_default
returns-in_default c = rw (← c.self.view_is) (sym (missing_stays c.args.number (with_promise c.args.promise) c.self.inside.rows.items (rw c.deref.ensures.value at c.in_default.ensures.absent)))
