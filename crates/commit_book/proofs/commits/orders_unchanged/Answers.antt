use Rattle.std.proofs.Common.{sym}
use Rattle.commit_book.proofs.CommitWalks.{order_here, order_next}
use Rattle.commit_book.proofs.commits.orders_unchanged.Goals as goal

pub returns-then-lacks_fewer : goal.returns-then-lacks_fewer
returns-then-lacks_fewer c = order_here c.args.now.now.office c.args.pairs.now c.loop-k.k c.index-pairs-k.result c.loop-k-test.true c.index-pairs-k.is (sym c.if-lacks_fewer.ensures) c.loop-k.invariant

pub loop-k-preserved : goal.loop-k-preserved
loop-k-preserved c = order_next c.args.now.now.office c.args.pairs.now c.loop-k.k c.index-pairs-k.result c.loop-k-test.true c.index-pairs-k.is (sym c.if-lacks_fewer.ensures) c.loop-k.invariant
