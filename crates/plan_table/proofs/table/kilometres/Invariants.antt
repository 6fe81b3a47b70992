use Rattle.std.proofs.Common.{◌≡◌, ◌≤◌, ◌*◌, take}
use Rattle.std.specs.List.{sum_by}
use Rattle.plan_table.proofs.table.kilometres.Given as goal

abbrev pub invariant-loop-journey : goal.invariant-loop-journey
invariant-loop-journey l = (l.total ≡ sum_by (λ journey. journey.km) (take l.journey-index l.journeys)) × (l.total ≤ l.journey-index * 4_294_967_295)
