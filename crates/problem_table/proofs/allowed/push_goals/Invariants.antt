use Rattle.std.proofs.Common.{ℕ, ◌≤◌, ◌+◌, ◌++◌, [], length, drop}
use Rattle.std.specs.Prelude.{vec_len, vec_capacity}
use Rattle.cost_table.specs.RowParts.{cells_in}
use Rattle.problem_table.specs.inner.RowsSoFar.{RowSoFar}
use Rattle.problem_table.proofs.allowed.push_goals.Given as goal

-- The row of the goals so far, at each moment up to the last; there is room for the rest.
abbrev pub invariant-loop-goal : goal.invariant-loop-goal
invariant-loop-goal l = record {
  row : (m : ℕ) → l.problem.at ≤ m → m ≤ l.last → RowSoFar l.tables m l.wagon l.problem.orders (drop l.goal-index l.goals) [] (cells_in l._first ++ l.entries.items);
  within : l.problem.at ≤ l.last;
  room : vec_len l.entries + length l.goals ≤ vec_capacity l.entries + l.goal-index;
}
