use Rattle.std.proofs.Common.{◌≡◌, ◌<◌, ◌≤◌, ◌-◌, ℕ, get_or, length}
use Rattle.assignment.specs.inner.Passes.{HasIdle}
use Rattle.assignment.proofs.passes.find_idle.Given as goal

abbrev pub invariant-groups : goal.invariant-groups
invariant-groups l = record {
  from : l.span.start ≤ length l.costs;
  before : l.span.end ≡ length l.costs;
  none : (g : ℕ) → g < l.span.start → get_or l.costs g 0 ≡ l.cost → HasIdle l.idle g → ⊥;
}

abbrev pub decreases-groups : goal.decreases-groups
decreases-groups l = length l.costs - l.span.start
