use Rattle.std.proofs.Common.{◌≡◌, map, take}
use Rattle.wagons_and_orders.specs.Listed.{is_listed}
use Rattle.plan_reasons.proofs.tested_wagons.listed_classes.Given as goal

abbrev pub invariant-loop-k : goal.invariant-loop-k
invariant-loop-k l = l.listed.items ≡ map (is_listed l.order.classes) (take l.k l.classes)
