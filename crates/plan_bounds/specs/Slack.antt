-- Slacks: what the prices of a certificate leave over, in km, and what is left over of a plan in all.
use Rattle.std.specs.Prelude.{◌+◌, ◌-◌, ◌*◌, ◌==◌, ℕ, if◌then◌else◌, min, List, Option, option_map, slice_index}
use Rattle.std.specs.List.{sum_by}
use Rattle.cost_table.specs.Table.{cost_at, lack_at, order_count, penalty_at, wagon_count}
use Rattle.cost_table.specs.Plan.{pair_cost, serves, sum_below, uses}
use Rattle.plan_bounds.specs.PricedPlan.{PricedPlan}

-- the slack of a pair: its cost and its wagon's price, less its order's price
abbrev pub slack : PricedPlan → ℕ × ℕ → ℕ
slack p pair = (pair_cost p.table pair + slice_index p.u pair.0) - slice_index p.v pair.1

-- the slack of each wagon that order j misses: the penalty, less the order's price
abbrev pub refusal_slack : PricedPlan → ℕ → ℕ
refusal_slack p j = penalty_at p.table j - slice_index p.v j

-- the price of wagon i, where the plan leaves it idle
abbrev pub idle_price : PricedPlan → List (ℕ × ℕ) → ℕ → ℕ
idle_price p other i = if uses i other == 0 then slice_index p.u i else 0

-- how many wagons order j misses in the plan
abbrev pub missed : PricedPlan → List (ℕ × ℕ) → ℕ → ℕ
missed p other j = lack_at p.table j - serves j other

-- the slacks of a plan's pairs, the prices of its idle wagons, and the slacks of the wagons that its orders miss
abbrev pub slack_in_all : PricedPlan → List (ℕ × ℕ) → ℕ
slack_in_all p other =
    sum_by (slack p) other
    + sum_below (wagon_count p.table) (idle_price p other)
    + sum_below (order_count p.table) (λ j. missed p other j * refusal_slack p j)

-- so many km, as far as 64 bits go
abbrev pub in_64_bits : ℕ → ℕ
in_64_bits km = min km 18_446_744_073_709_551_615

-- the slack of a pair, as far as 64 bits go; none where the pair isn't allowed
abbrev pub slack_of_pair : PricedPlan → (i j : ℕ) → Option ℕ
slack_of_pair p i j = option_map (λ cost. in_64_bits (slack p (i, j))) (cost_at p.table i j)
