use Rattle.std.proofs.Common.{◌≡◌, All, map, take}
use Rattle.plan_reasons.specs.inner.AddedPairs.{IsFoundFit}
use Rattle.plan_reasons.proofs.pair_lists.found_by.Given as goal

abbrev pub invariant-loop-pair : goal.invariant-loop-pair
invariant-loop-pair l = record {
  pairs : map (λ fit. fit.pair) l.found.items ≡ take l.pair-index l.fitting;
  fitting : All (IsFoundFit l.numbers l.planned) l.found.items;
}
