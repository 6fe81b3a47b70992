-- The lines of a plan: which wagons go to each order, and how many it misses. Each line ends with a line feed, and its
-- words are parted by one space.
use Rattle.std.specs.Prelude.{◌≡◌, ◌-◌, ◌==◌, ℕ, List, [], ◌∷◌, ◌++◌, length, filter, replicate, codes, decimal}
use Rattle.std.specs.List.{concat, flat_map, range_with_len}
use Rattle.cost_table.specs.Plan.{pair_cost, serves}
use Rattle.cost_table.specs.Problem.{ProblemValue, order_names, wagon_names, penalties_of}
use Rattle.cost_table.specs.Table.{Table, lack_at, order_count, penalty_at, wagon_count}
use Rattle.price_checker.specs.NamedFaults.{name_at}
use Rattle.reply_texts.specs.Words.{next_word}

-- The table has as many wagons and orders as the problem, and its orders' penalties.
pub record FitsProblem (problem : ProblemValue) (t : Table) : Type 0 where
  pub wagons : wagon_count t ≡ length problem.wagons
  pub orders : order_count t ≡ length problem.orders
  pub penalties : t.penalties ≡ penalties_of problem.orders

-- a wagon that goes to an order, with its kilometres
abbrev pub assign_line : ProblemValue → Table → ℕ × ℕ → List ℕ
assign_line problem t pair =
    codes "assign" ++ next_word (name_at (wagon_names problem.wagons) pair.0) ++ next_word (name_at (order_names problem.orders) pair.1)
    ++ next_word (decimal (pair_cost t pair)) ++ 10 ∷ []

-- a wagon that order j misses, with its penalty in km
abbrev pub refuse_line : ProblemValue → Table → ℕ → List ℕ
refuse_line problem t j =
    codes "refuse" ++ next_word (name_at (order_names problem.orders) j) ++ next_word (decimal (penalty_at t j)) ++ 10 ∷ []

-- the wagons of a plan that go to order j
abbrev pub assign_lines : ProblemValue → Table → List (ℕ × ℕ) → ℕ → List ℕ
assign_lines problem t pairs j = flat_map (assign_line problem t) (filter (λ (p : ℕ × ℕ). p.1 == j) pairs)

-- a line for each wagon that order j lacks and the plan doesn't give it
abbrev pub refuse_lines : ProblemValue → Table → List (ℕ × ℕ) → ℕ → List ℕ
refuse_lines problem t pairs j = concat (replicate (lack_at t j - serves j pairs) (refuse_line problem t j))

-- the lines of order j
abbrev pub order_lines : ProblemValue → Table → List (ℕ × ℕ) → ℕ → List ℕ
order_lines problem t pairs j = assign_lines problem t pairs j ++ refuse_lines problem t pairs j

-- the lines of each order, as placed
abbrev pub plan_text_of : ProblemValue → Table → List (ℕ × ℕ) → List ℕ
plan_text_of problem t pairs = flat_map (order_lines problem t pairs) (range_with_len 0 (length problem.orders))
