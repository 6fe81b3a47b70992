use Rattle.std.proofs.Common.{◌≡◌, take}
use Rattle.std.specs.List.{count_by}
use Rattle.plan_reasons.specs.inner.Tallied.{has_load, is_of_class}
use Rattle.plan_reasons.proofs.tested_wagons.count_suited.Given as goal

abbrev pub invariant-loop-wagon : goal.invariant-loop-wagon
invariant-loop-wagon l = (l.counts.class ≡ count_by (is_of_class l.listed) (take l.wagon-index l.wagons)) × (l.counts.load ≡ count_by (has_load l.listed l.load) (take l.wagon-index l.wagons))
