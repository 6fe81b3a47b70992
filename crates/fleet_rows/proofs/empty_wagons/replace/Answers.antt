use Rattle.fleet_rows.proofs.EmptyRows.{gone, listed_again, listed_still, others_ascend, room_there}
use Rattle.fleet_rows.proofs.empty_wagons.replace.Goals as goal

pub returns-then-stands_the_same-clause-listed : goal.returns-then-stands_the_same-clause-listed
returns-then-stands_the_same-clause-listed c =
    listed_still c.args.rows.now.items c.args.index c.index.result.now c.args.row.now c.args.empty.now.items _ c.requires.within c.index.ensures c.requires.listed (c.stands_the_same.ensures c.if-stands_the_same.true)

pub put_on-requires-clause-ascending : goal.put_on-requires-clause-ascending
put_on-requires-clause-ascending c =
    rw (c.deref-2.ensures.value, c.take_off.ensures.items) (others_ascend c.args.rows.now.items c.args.index c.index.result.now c.args.row.now c.args.empty.now.items _ c.requires.within c.index.ensures c.requires.listed)

pub put_on-requires-clause-absent : goal.put_on-requires-clause-absent
put_on-requires-clause-absent c =
    rw c.take_off.ensures.items (gone c.args.rows.now.items c.args.index c.index.result.now c.args.row.now c.args.empty.now.items _ c.requires.within c.index.ensures c.requires.listed)

pub put_on-requires-clause-room : goal.put_on-requires-clause-room
put_on-requires-clause-room c =
    rw (c.deref-2.ensures.value, c.take_off.ensures.room)
    (room_there c.args.rows.now.items c.args.index c.index.result.now c.args.row.now c.args.empty.now.items _ c.requires.within c.index.ensures c.requires.listed _ (rw c.deref.ensures.value at c.take_off.ensures.fewer))

pub returns-clause-listed : goal.returns-clause-listed
returns-clause-listed c =
    listed_again c.args.rows.now.items c.args.index c.index.result.now c.args.row.now c.args.empty.now.items _ c.requires.within c.index.ensures c.requires.listed c.put_on.new.indexes.items _ _
    (rw c.deref.ensures.value at c.take_off.ensures.fewer) (rw c.deref-2.ensures.value at c.put_on.ensures.ascending) (rw (c.deref-2.ensures.value, c.take_off.ensures.items) at c.put_on.ensures.with_it)
    (rw c.deref-2.ensures.value at c.put_on.ensures.more) (rw c.take_off.ensures.room at c.put_on.ensures.room)
