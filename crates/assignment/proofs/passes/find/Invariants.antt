use Rattle.std.proofs.Common.{◌≡◌, ◌<◌, ◌≤◌, ◌-◌, ℕ, get_or}
use Rattle.assignment.proofs.passes.find.Given as goal

abbrev pub invariant-blocks-2 : goal.invariant-blocks-2
invariant-blocks-2 l = record {
  from : l.span.start ≤ l.block;
  before : l.block ≤ l.span.end;
  none : (g : ℕ) → l.span.start ≤ g → g < l.block → get_or l.numbers g 0 ≡ l.number → ⊥;
}

abbrev pub decreases-blocks-2 : goal.decreases-blocks-2
decreases-blocks-2 l = l.span.end - l.block

abbrev pub invariant-groups : goal.invariant-groups
invariant-groups l = record {
  from : l.fn.span.start ≤ l.g;
  none : (g : ℕ) → l.fn.span.start ≤ g → g < l.g → get_or l.numbers g 0 ≡ l.number → ⊥;
}
