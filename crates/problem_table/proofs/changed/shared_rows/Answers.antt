use Rattle.std.proofs.Common.{◌∙◌, arith}
use Rattle.problem_table.proofs.ChangedLemmas.{alike_earlier_row, index_within}
use Rattle.problem_table.proofs.MakingLemmas.{made_next, stands_at}
use Rattle.problem_table.proofs.changed.shared_rows.Goals as goal
use Rattle.problem_table.proofs.changed.shared_rows.Goals.{in-Some+in_ok-take_over-in-Some, in-None+in_ok-make-in-None}

pub take_over-requires-clause-wagon : goal.take_over-requires-clause-wagon
take_over-requires-clause-wagon c =
    index_within c.args.tables.now c.args.earlier.now.at c.args.earlier.now.wagons c.args.problem.now.orders _ c.args.lasts.now c.index_from-at.result c.requires.rows (rw c.wagons-in-loop-k.ensures.wagons at c.in-Some.ensures.there)

pub make-requires-clause-wagon : goal.make-requires-clause-wagon
make-requires-clause-wagon c = rw c.wagons-wagons.ensures.wagons at (stands_at c.wagons-wagons.result.now c.loop-k.k c.index-wagons-k.result c.loop-k-test.true c.index-wagons-k.is)

pub loop-k-preserved : goal.loop-k-preserved
loop-k-preserved c =
    let net = c.args.tables.now in
    let problem = c.args.problem.now in
    let earlier = c.args.earlier.now in
    let inv = c.loop-k.invariant in
    elim c.match-lasting_row.branch [
      | in-Some+in_ok-take_over-in-Some w ↦
          let more = w.in_ok-take_over-in-Some.ensures.row in
          let here = rw c.wagons-wagons.ensures.wagons at (stands_at c.wagons-wagons.result.now c.loop-k.k c.index-wagons-k.result c.loop-k-test.true c.index-wagons-k.is) in
          let there = rw c.wagons-in-loop-k.ensures.wagons at w.in-Some.ensures.there in
          let alike = rw (c.wagons-in-loop-k.ensures.wagons, c.at.ensures) at w.in-Some.ensures.alike in
          let row = alike_earlier_row net earlier.at problem.at earlier.wagons problem.orders _ c.args.lasts.now c.index_from-at.result c.index-wagons-k.result w.in-Some.last c.requires.rows c.requires.earlier there alike w.in-Some.ensures.last in
          rw w.making-is (record {
            made = made_next net problem c.loop-k.k c.index-wagons-k.result here c.loop-k.making inv.made _
                (record { row = _; last = w.in-Some.last; more = more; within = omega (arith, w.in-Some.ensures.within, c.at.ensures); is = row })
                (rw w.take_over.ensures.classes inv.made.classes);
            shared = more.shared ∙ inv.shared;
          })
      | in-None+in_ok-make-in-None w ↦ rw w.making-is (record { made = w.in_ok-make-in-None.ensures.made; shared = w.in_ok-make-in-None.ensures.shared ∙ inv.shared })
    ]
