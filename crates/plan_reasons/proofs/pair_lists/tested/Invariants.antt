use Rattle.std.proofs.Common.{◌≡◌, All, map, take}
use Rattle.plan_reasons.specs.inner.AddedPairs.{IsFoundFailed}
use Rattle.plan_reasons.proofs.pair_lists.tested.Given as goal

abbrev pub invariant-loop-pair : goal.invariant-loop-pair
invariant-loop-pair l = record {
  pairs : map (λ failed. failed.pair) l.tested.items ≡ take l.pair-index l.failing;
  each : All (IsFoundFailed l.planned) l.tested.items;
}
