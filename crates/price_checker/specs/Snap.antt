-- Snapshots: what a planner is given.
use Rattle.std.specs.Prelude.{◌≤◌, ◌<◌, ℕ, length}
use Rattle.cost_table.specs.Problem.{ProblemValue, names_of_problem}
use Rattle.price_checker.specs.Limits.{max_entries}
use Rattle.price_checker.specs.NamedPairs.{NamedPair}
use Rattle.price_checker.specs.NamesAt.{named_at}

-- a version, the network in force in it, and its problem at a moment
pub record SnapValue : Type 0 where
  pub version : ℕ
  pub network : ℕ
  pub problem : ProblemValue

abbrev pub IsVersionNumber : ℕ → Type 0
IsVersionNumber version = version ≤ max_entries

-- a pair of positions is one of the problem
abbrev pub IsInRange : ProblemValue → ℕ × ℕ → Type 0
IsInRange problem position = (position.0 < length problem.wagons) × (position.1 < length problem.orders)

-- the names at a pair of positions
abbrev pub named_pair : ProblemValue → ℕ × ℕ → NamedPair
named_pair problem position = named_at (names_of_problem problem) position
