use Rattle.std.proofs.Common.{take}
use Rattle.plan_reasons.specs.inner.Tallied.{AreTested}
use Rattle.plan_reasons.proofs.tested_wagons.tested_wagons.Given as goal

abbrev pub invariant-loop-wagon : goal.invariant-loop-wagon
invariant-loop-wagon l = AreTested l.network (take l.wagon-index l.problem.wagons) l.classes.items l.wagons.items
