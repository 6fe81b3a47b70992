use Rattle.std.proofs.Common.{take}
use Rattle.plan_table.specs.inner.Rows.{AreJourneyRows}
use Rattle.plan_table.proofs.table.journey_rows.Given as goal

abbrev pub invariant-loop-journey : goal.invariant-loop-journey
invariant-loop-journey l = AreJourneyRows l.places l.clock (take l.journey-index l.journeys) l.rows.items
