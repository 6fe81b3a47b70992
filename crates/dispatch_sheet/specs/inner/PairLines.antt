-- The lines of one order, by its own pairs alone.
use Rattle.std.specs.Prelude.{◌-◌, ℕ, List, ◌++◌, length, replicate}
use Rattle.std.specs.List.{concat, flat_map}
use Rattle.cost_table.specs.Problem.{ProblemValue}
use Rattle.cost_table.specs.Table.{Table, lack_at}
use Rattle.dispatch_sheet.specs.PlanText.{assign_line, refuse_line}

-- a line for each of its pairs, and one for each wagon more that it lacks
abbrev pub lines_of_pairs : ProblemValue → Table → List (ℕ × ℕ) → ℕ → List ℕ
lines_of_pairs problem t mine j = flat_map (assign_line problem t) mine ++ concat (replicate (lack_at t j - length mine) (refuse_line problem t j))
