use Rattle.problem_table.proofs.ChangedLemmas.{alike_earlier_row, same_block}
use Rattle.problem_table.proofs.MakingLemmas.{stands_at}
use Rattle.problem_table.proofs.changed.moved_rows.Goals as goal
use Rattle.problem_table.proofs.changed.moved_rows.Goals.{in-Some+in_ok-take_along-in-Some, in-None+in_ok-make-in-None}

pub take_along-requires-clause-along : goal.take_along-requires-clause-along
take_along-requires-clause-along c =
    let earlier = c.args.earlier.now in
    record {
      earlier = earlier.orders;
      are = c.loop-k.invariant.moved;
      steady = c.loop-k.invariant.steady;
      is = alike_earlier_row c.args.tables.now earlier.at c.args.problem.now.at earlier.wagons earlier.orders _ c.args.lasts.now c.index_from-at.result c.index-wagons-k.result c.in-Some.last c.requires.rows c.requires.earlier
          (rw c.wagons-in-loop-k.ensures.wagons at c.in-Some.ensures.there) (rw (c.wagons-in-loop-k.ensures.wagons, c.at.ensures) at c.in-Some.ensures.alike) c.in-Some.ensures.last;
    }

pub make-requires-clause-wagon : goal.make-requires-clause-wagon
make-requires-clause-wagon c = rw c.wagons-wagons.ensures.wagons at (stands_at c.wagons-wagons.result.now c.loop-k.k c.index-wagons-k.result c.loop-k-test.true c.index-wagons-k.is)

pub loop-k-preserved : goal.loop-k-preserved
loop-k-preserved c =
    let inv = c.loop-k.invariant in
    elim c.match-lasting_row.branch [
      | in-Some+in_ok-take_along-in-Some w ↦ rw (w.making-is, w.moving-is) (record {
        made = w.in_ok-take_along-in-Some.ensures.made;
        block = rw w.in_ok-take_along-in-Some.ensures.shares (same_block c.loop-k.moving.shares c.args.rows.now.shared.value _ _ w.in_ok-take_along-in-Some.ensures.shared inv.block);
        moved = rw w.in_ok-take_along-in-Some.ensures.moved inv.moved;
        steady = rw w.in_ok-take_along-in-Some.ensures.moved inv.steady;
        came = w.in_ok-take_along-in-Some.ensures.came;
      })
      | in-None+in_ok-make-in-None w ↦ rw (w.making-is, w.moving-is) (record {
        made = w.in_ok-make-in-None.ensures.made;
        block = same_block c.loop-k.moving.shares c.args.rows.now.shared.value _ _ w.in_ok-make-in-None.ensures.shared inv.block;
        moved = inv.moved;
        steady = inv.steady;
        came = inv.came;
      })
    ]
