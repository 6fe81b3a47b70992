use Rattle.std.proofs.Common.{◌≡◌, ◌<◌, ◌≤◌, ◌-◌, ℕ, get_or, length}
use Rattle.assignment.proofs.groups.are_same_cells.Given as goal

abbrev pub invariant-parts : goal.invariant-parts
invariant-parts l = record {
  within : l.x ≤ length l.row;
  same : (k : ℕ) → k < l.x → get_or l.row k (0, 0) ≡ get_or l.other k (0, 0);
}

abbrev pub decreases-parts : goal.decreases-parts
decreases-parts l = length l.row - l.x
