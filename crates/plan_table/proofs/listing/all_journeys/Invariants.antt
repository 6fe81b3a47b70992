use Rattle.std.proofs.Common.{take}
use Rattle.std.specs.List.{AllZip}
use Rattle.plan_reasons.specs.Journeys.{IsJourney}
use Rattle.plan_table.proofs.listing.all_journeys.Given as goal

abbrev pub invariant-loop-pair : goal.invariant-loop-pair
invariant-loop-pair l = AllZip (IsJourney l.planned.network l.planned.problem) (take l.pair-index l.pair-items) l.journeys.items
