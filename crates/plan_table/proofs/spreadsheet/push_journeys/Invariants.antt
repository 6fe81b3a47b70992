use Rattle.std.proofs.Common.{take}
use Rattle.plan_table.specs.inner.Rows.{AreJourneysFields}
use Rattle.plan_table.proofs.spreadsheet.push_journeys.Given as goal

abbrev pub invariant-loop-journey : goal.invariant-loop-journey
invariant-loop-journey l = AreJourneysFields l.places l.clock (take l.journey-index l.journeys) l.initial.rows.items l.rows.items
