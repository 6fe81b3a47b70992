use Rattle.std.proofs.Common.{◌≤◌, ◌-◌, ℕ, drop, length}
use Rattle.std.specs.Prelude.{All}
use Rattle.problem_table.proofs.moved.steady_part.Given as goal

-- The cells passed so far are of later orders.
abbrev pub invariant-loop-later : goal.invariant-loop-later
invariant-loop-later l = All (λ (cell : ℕ × ℕ). l.moved.steady ≤ cell.0) (drop (length l.row - l.later) l.row)
