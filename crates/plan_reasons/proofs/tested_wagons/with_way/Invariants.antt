use Rattle.std.proofs.Common.{take}
use Rattle.plan_reasons.specs.Reasons.{HasWay, IsCount}
use Rattle.plan_reasons.proofs.tested_wagons.with_way.Given as goal

abbrev pub invariant-loop-wagon : goal.invariant-loop-wagon
invariant-loop-wagon l = IsCount (λ wagon. HasWay l.planned.network wagon l.order) (take l.wagon-index l.planned.problem.wagons) l.count
