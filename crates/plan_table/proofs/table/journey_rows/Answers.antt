use Rattle.std.proofs.Common.{arith}
use Rattle.plan_table.proofs.MadeRows.{AreJourneyRows-more}
use Rattle.plan_table.proofs.table.journey_rows.Goals as goal

pub loop-journey-preserved : goal.loop-journey-preserved
loop-journey-preserved c =
    AreJourneyRows-more c.args.places.now c.args.clock.now c.args.journeys.now c.loop-journey.rows.items c.push-in-loop-journey.new.self.items c.loop-journey.journey-index c.journey-item.result c.journey-item.result c.in_ok-journey_row.field-0
    c.loop-journey.invariant (omega arith) c.journey-item.is c.in_ok-journey_row.ensures c.in_ok-push-2.ensures.items
