use Rattle.sessions.proofs.MovedWagons.{receipt_more}
use Rattle.sessions.proofs.crossing.least_moved.Goals as goal

pub loop-receipt-preserved : goal.loop-receipt-preserved
loop-receipt-preserved c =
    rw (c.least_of-least.ensures, c.one_of.ensures, c.moved_wagon.ensures)
    (receipt_more c.args.receipts.now c.loop-receipt.receipt-index c.receipt-item.result c.args.wagons.now c.loop-receipt.least c.loop-receipt-test.true c.receipt-item.is c.loop-receipt.invariant)
