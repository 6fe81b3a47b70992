-- The least slack of the pairs of an order that the certified plan could have and doesn't.
use Rattle.std.specs.Prelude.{◌==◌, ◌&&◌, ℕ, zero, suc, if◌then◌else◌, min, Bool, List, Option, Some, None}
use Rattle.std.specs.List.{list_any}
use Rattle.plan_bounds.specs.PricedPlan.{PricedPlan}
use Rattle.plan_bounds.specs.Slack.{slack_of_pair}

-- whether a pair is among these
abbrev pub has_pair : List (ℕ × ℕ) → (i j : ℕ) → Bool
has_pair pairs i j = list_any (λ (q : ℕ × ℕ). q.0 == i && (q.1 == j)) pairs

-- the slack of an allowed pair, if the certified plan doesn't have it
abbrev pub new_slack : PricedPlan → (i j : ℕ) → Option ℕ
new_slack p i j = if has_pair p.pairs i j then None else slack_of_pair p i j

-- the lesser of two numbers, where both are there
abbrev pub lesser : Option ℕ → Option ℕ → Option ℕ
lesser None other = other
lesser (Some one) None = Some one
lesser (Some one) (Some other) = Some (min one other)

-- the least of them for order j with the first n wagons
abbrev pub least_new_slack : PricedPlan → (j n : ℕ) → Option ℕ
least_new_slack p j zero = None
least_new_slack p j (suc n) = lesser (least_new_slack p j n) (new_slack p n j)
