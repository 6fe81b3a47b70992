use Rattle.std.proofs.Common.{◌≡◌, arith, length, vec_capacity, sym, subst}
use Rattle.fleet_rows.proofs.EmptyRows.{AreListedBefore, all_before, none_before, one_more, room_yet}
use Rattle.fleet_rows.proofs.empty_wagons.empty_list.Goals as goal

pub loop-index-init : goal.loop-index-init
loop-index-init c =
    subst (λ xs. AreListedBefore c.args.rows.now 0 xs (vec_capacity c.in_ok-empty.empty)) (sym c.in_ok-empty.ensures.items)
    (none_before c.args.rows.now (vec_capacity c.in_ok-empty.empty) c.in_ok-empty.ensures.capacity)

pub put_on-requires-clause-room : goal.put_on-requires-clause-room
put_on-requires-clause-room c = room_yet c.args.rows.now c.loop-index.index c.loop-index.empty.items (vec_capacity c.loop-index.empty) c.loop-index.invariant c.loop-index-test.true

pub loop-index-preserved : goal.loop-index-preserved
loop-index-preserved c =
    one_more c.args.rows.now c.loop-index.index c.loop-index.empty.items c.put_on.new.indexes.items (vec_capacity c.loop-index.empty) (vec_capacity c.put_on.new.indexes) c.loop-index.invariant c.loop-index-test.true
    c.put_on.ensures.ascending c.put_on.ensures.with_it c.put_on.ensures.more c.put_on.ensures.room

pub returns : goal.returns
returns c =
    let all : c.loop-index.index ≡ length c.args.rows.now = omega (arith, c.loop-index-test.false, c.loop-index.auto.index-end) in
    all_before c.args.rows.now c.loop-index.index c.loop-index.empty.items (vec_capacity c.loop-index.empty) all c.loop-index.invariant
