-- The numbers of a text, in km: what the best plans that are so cost exactly, or bounds by the prices of the plan's certificate.
use Rattle.std.specs.Prelude.{◌≡◌, ◌+◌, ◌-◌, ℕ, IfSome, is_some, nat_lt, Option, slice_index, unwrap_or}
use Rattle.cost_table.specs.Table.{lack_at}
use Rattle.plan_bounds.specs.PricedPlan.{PricedPlan}
use Rattle.plan_bounds.specs.Slack.{missed, slack_of_pair}
use Rattle.plan_bounds.specs.Changes.{with_lack}
use Rattle.plan_bounds.specs.Bounds.{HasPair, IsIdle}
use Rattle.exact_costs.specs.LeastCosts.{BestCostsMore, BestOfCostsLess, BestOfCostsMore, may_lack_more}
use Rattle.exact_costs.specs.FurtherCosts.{IsFurther}
use Rattle.exact_costs.specs.declared.further.Further.{Further}
use Rattle.plan_reasons.specs.declared.numbers.Numbers.{Numbers}
use Rattle.plan_reasons.specs.declared.numbers.Numbers.TheVariants.{Exact, Bounds}

-- what the best plan costs more in which wagon i stays; or what each such plan costs more, at least: the wagon's price
abbrev pub IsWithout : Numbers → PricedPlan → (i km : ℕ) → Type 0
IsWithout Exact p i km = BestCostsMore p (IsIdle i) km
IsWithout Bounds p i km = km ≡ slice_index p.u i

-- what every plan costs more, at least, that has a pair: its slack, as far as 64 bits go
abbrev pub more_of : PricedPlan → (pair : ℕ × ℕ) → ℕ
more_of p pair = unwrap_or (slack_of_pair p pair.0 pair.1) 0

-- what the best plan costs more that has a pair, or that bound
abbrev pub IsMoreOf : Numbers → PricedPlan → (pair : ℕ × ℕ) → (km : ℕ) → Type 0
IsMoreOf Exact p pair km = BestCostsMore p (HasPair pair.0 pair.1) km
IsMoreOf Bounds p pair km = km ≡ more_of p pair

-- What the best plan costs more where order j lacks one wagon more, less where it lacks one less, and more where the plan gives it
-- more. The first is there where the table may have one wagon more, the last where the order misses a wagon.
pub record AreChanges (p : PricedPlan) (j : ℕ) (more : Option ℕ) (less : ℕ) (further : Option Further) : Type 0 where
  pub may_be_more : is_some more ≡ may_lack_more p.table j
  pub costs : IfSome more (BestOfCostsMore p (with_lack p.table j (lack_at p.table j + 1)))
  pub saves : BestOfCostsLess p (with_lack p.table j (lack_at p.table j - 1)) less
  pub misses : is_some further ≡ nat_lt 0 (missed p p.pairs j)
  pub gives_more : IfSome further (IsFurther p j)
