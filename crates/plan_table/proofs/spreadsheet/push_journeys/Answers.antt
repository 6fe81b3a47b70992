use Rattle.std.proofs.Common.{arith}
use Rattle.plan_table.proofs.MadeRows.{AreJourneysFields-more}
use Rattle.plan_table.proofs.spreadsheet.push_journeys.Goals as goal

pub loop-journey-preserved : goal.loop-journey-preserved
loop-journey-preserved c =
    AreJourneysFields-more c.args.places.now c.args.clock.now c.args.journeys.now c.args.rows.now.items c.loop-journey.rows.items c.push.new.self.items c.loop-journey.journey-index c.journey-item.result c.journey-item.result c.in_ok-journey_fields.field-0
    c.loop-journey.invariant (omega arith) c.journey-item.is c.in_ok-journey_fields.ensures c.in_ok-push.ensures.items
