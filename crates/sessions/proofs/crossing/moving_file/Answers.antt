use Rattle.std.proofs.Common.{◌∙◌, arith, sym}
use Rattle.sessions.proofs.MovedWagons.{file_more, here_not, in_no_file, itself}
use Rattle.sessions.proofs.crossing.moving_file.Goals as goal
use Rattle.sessions.proofs.crossing.moving_file.Goals.{else-file-index-via-then-file-index+else-has_moved, else-file-index-via-else-file-index}

pub loop-file-preserved : goal.loop-file-preserved
loop-file-preserved g c =
    file_more c.args.seats.now c.args.index c.loop-file.file c.args.wagon c.loop-file.invariant
    (elim c.else-file-index.branch [
      | else-file-index-via-then-file-index+else-has_moved w ↦ here_not c.args.seats.now c.args.index c.loop-file.file c.index-seats-file.result c.args.wagon c.loop-file-test.true c.index-seats-file.is cc
      | else-file-index-via-else-file-index w ↦ itself c.args.seats.now c.args.index c.loop-file.file c.args.wagon (omega arith)
    ])

pub returns-clause-none : goal.returns-clause-none
returns-clause-none g c =
    in_no_file c.args.seats.now c.args.index c.args.wagon (λ other within. c.loop-file.invariant other (omega (arith, within)))
