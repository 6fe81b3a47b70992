use Rattle.std.proofs.Common.{◌≡◌, None}
use Rattle.std.specs.Prelude.{slice_index}
use Rattle.price_checker.specs.Faults.{first_below, gap_of_wagon}
use Rattle.price_checker.proofs.checker.check_gaps.Given as goal

abbrev pub invariant-loop-i : goal.invariant-loop-i
invariant-loop-i l = first_below l.i (λ i. gap_of_wagon l.cells i (slice_index l.u i) l.v) ≡ None
