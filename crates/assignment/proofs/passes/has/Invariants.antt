use Rattle.std.proofs.Common.{◌≡◌, ◌<◌, ℕ, false, get_or}
use Rattle.assignment.proofs.passes.has.Given as goal

abbrev pub invariant-loop-g : goal.invariant-loop-g
invariant-loop-g l = l.found ≡ false → (g : ℕ) → g < l.g → get_or l.numbers g 0 ≡ l.number → ⊥
