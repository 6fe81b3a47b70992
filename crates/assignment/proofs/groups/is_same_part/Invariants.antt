use Rattle.std.proofs.Common.{◌≡◌, ◌<◌, ℕ, true, get_or}
use Rattle.assignment.proofs.groups.is_same_part.Given as goal

abbrev pub invariant-loop-x : goal.invariant-loop-x
invariant-loop-x l = l.is_same ≡ true → (k : ℕ) → k < l.x → get_or l.row k (0, 0) ≡ get_or l.other k (0, 0)
