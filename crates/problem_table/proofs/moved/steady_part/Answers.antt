use Rattle.std.proofs.Common.{◌-◌, length, arith}
use Rattle.problem_table.proofs.MovedLemmas.{behind_none, first_before, one_behind}
use Rattle.problem_table.proofs.moved.steady_part.Goals as goal

pub loop-later-init : goal.loop-later-init
loop-later-init c = behind_none c.args.moved.now.steady c.args.row.now _ (omega arith)

pub loop-later-preserved : goal.loop-later-preserved
loop-later-preserved c = one_behind c.args.moved.now.steady c.args.row.now c.loop-later.later (0, 0) c.loop-later-test.true c.if-row-count.false c.loop-later.invariant

pub returns-then-row-count-clause-before : goal.returns-then-row-count-clause-before
returns-then-row-count-clause-before c =
    first_before (length c.args.moved.now.positions.items) c.args.moved.now.steady c.args.row.now c.requires (length c.args.row.now - c.loop-later.later) (omega (arith, c.loop-later-test.true)) (omega arith) (0, 0) c.if-row-count.true
