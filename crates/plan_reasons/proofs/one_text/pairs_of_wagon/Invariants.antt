use Rattle.std.proofs.Common.{◌≡◌, map}
use Rattle.std.specs.List.{range_with_len}
use Rattle.plan_reasons.proofs.one_text.pairs_of_wagon.Given as goal

abbrev pub invariant-loop-j : goal.invariant-loop-j
invariant-loop-j l = l.pairs.items ≡ map (λ j. (l.i, j)) (range_with_len 0 l.j)
