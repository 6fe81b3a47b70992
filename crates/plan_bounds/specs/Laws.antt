-- Laws of certificates: what every other plan of the table costs, and every plan of a table that differs in one order or one wagon.
use Rattle.std.specs.Prelude.{◌≡◌, ◌+◌, ◌-◌, ◌*◌, ◌<◌, ◌≤◌, ℕ, List, slice_index}
use Rattle.cost_table.specs.Table.{costs_at, lack_at, order_count, penalty_at, wagon_count}
use Rattle.cost_table.specs.TableRows.{costs_of}
use Rattle.cost_table.specs.Plan.{IsAllowed, IsPlan, cost_of, pair_cost, serves}
use Rattle.plan_bounds.specs.PricedPlan.{IsCertified, PricedPlan, certified_cost}
use Rattle.plan_bounds.specs.Slack.{missed, refusal_slack, slack, slack_in_all}
use Rattle.plan_bounds.specs.Changes.{gain_of, with_lack, with_wagon, without_wagon}
use Rattle.plan_bounds.specs.Bounds.{AllCostMore, CostsMore, EachMissCosts, HasPair, IsIdle, IsNewPair, NoneSavesMore}

-- a plan costs what the certified one does, and its slacks
abbrev pub SlacksAreTheDifference : Type 0
SlacksAreTheDifference =
    (p : PricedPlan) → IsCertified p → (other : List (ℕ × ℕ)) → IsPlan p.table other
    → cost_of p.table other ≡ certified_cost p + slack_in_all p other

-- no slack is cut off at 0: a price is never above what it is taken from
pub record HasWholeSlacks (p : PricedPlan) : Type 0 where
  pub pairs : (i j : ℕ) → IsAllowed p.table (i, j) → slice_index p.v j + slack p (i, j) ≡ pair_cost p.table (i, j) + slice_index p.u i
  pub misses : (j : ℕ) → j < order_count p.table → slice_index p.v j + refusal_slack p j ≡ penalty_at p.table j

abbrev pub SlacksAreWhole : Type 0
SlacksAreWhole = (p : PricedPlan) → IsCertified p → HasWholeSlacks p

-- no slack is left over in a plan
pub record HasNoSlack (p : PricedPlan) (other : List (ℕ × ℕ)) : Type 0 where
  pub pairs : (i j : ℕ) → HasPair i j other → slack p (i, j) ≡ 0
  pub idle : (i : ℕ) → i < wagon_count p.table → IsIdle i other → slice_index p.u i ≡ 0
  pub misses : (j : ℕ) → j < order_count p.table → 1 ≤ missed p other j → refusal_slack p j ≡ 0

-- a plan that costs as little as the certified one has none
abbrev pub LeastPlansHaveNoSlack : Type 0
LeastPlansHaveNoSlack =
    (p : PricedPlan) → IsCertified p → (other : List (ℕ × ℕ)) → IsPlan p.table other
    → cost_of p.table other ≡ certified_cost p → HasNoSlack p other

-- ---- other plans of the table

-- a plan with a pair costs the pair's slack more, at least
abbrev pub PairsCostTheirSlack : Type 0
PairsCostTheirSlack = (p : PricedPlan) → IsCertified p → (i j : ℕ) → CostsMore p (HasPair i j) (slack p (i, j))

-- a plan in which a wagon is idle costs the wagon's price more, at least
abbrev pub IdleWagonsCostTheirPrice : Type 0
IdleWagonsCostTheirPrice = (p : PricedPlan) → IsCertified p → (i : ℕ) → i < wagon_count p.table → CostsMore p (IsIdle i) (slice_index p.u i)

-- each wagon that an order misses costs the slack of its refusal more, at least
abbrev pub MissesCostTheirSlack : Type 0
MissesCostTheirSlack = (p : PricedPlan) → IsCertified p → (j : ℕ) → j < order_count p.table → EachMissCosts p j (refusal_slack p j)

-- a plan that gives an order more wagons costs the slack of a pair more, at least, that the certified plan doesn't have
abbrev pub MoreWagonsCostASlack : Type 0
MoreWagonsCostASlack =
    (p : PricedPlan) → IsCertified p → (j : ℕ) (other : List (ℕ × ℕ)) → IsPlan p.table other → serves j p.pairs < serves j other
    → (i : ℕ) × IsNewPair p i j × (certified_cost p + slack p (i, j) ≤ cost_of p.table other)

-- ---- tables in which an order lacks more or fewer wagons

-- where an order lacks n wagons, each plan costs n times the order's price, at least, in place of as often as it lacked one
abbrev pub LacksCostThePrice : Type 0
LacksCostThePrice =
    (p : PricedPlan) → IsCertified p → (j n : ℕ) → j < order_count p.table → (other : List (ℕ × ℕ)) → IsPlan (with_lack p.table j n) other
    → certified_cost p + n * slice_index p.v j ≤ cost_of (with_lack p.table j n) other + lack_at p.table j * slice_index p.v j

-- where an order lacks one wagon more, each plan costs the order's price more, at least
abbrev pub OneMoreCostsThePrice : Type 0
OneMoreCostsThePrice =
    (p : PricedPlan) → IsCertified p → (j : ℕ) → j < order_count p.table
    → AllCostMore p (with_lack p.table j (lack_at p.table j + 1)) (slice_index p.v j)

-- where it lacks one wagon less, no plan saves more than the order's price
abbrev pub OneLessSavesThePrice : Type 0
OneLessSavesThePrice =
    (p : PricedPlan) → IsCertified p → (j : ℕ) → j < order_count p.table
    → NoneSavesMore p (with_lack p.table j (lack_at p.table j - 1)) (slice_index p.v j)

-- ---- tables with one wagon less or more

-- where a wagon may serve no order, each plan costs the wagon's price more, at least
abbrev pub WithoutAWagonCostsItsPrice : Type 0
WithoutAWagonCostsItsPrice =
    (p : PricedPlan) → IsCertified p → (i : ℕ) → i < wagon_count p.table → AllCostMore p (without_wagon p.table i) (slice_index p.u i)

-- with one wagon more, no plan saves more than the most by which an order's price exceeds that wagon's cost for it
abbrev pub OneWagonMoreSavesItsGain : Type 0
OneWagonMoreSavesItsGain = (p : PricedPlan) → IsCertified p → (row : List (ℕ × ℕ)) → NoneSavesMore p (with_wagon p.table (costs_of (order_count p.table) row)) (gain_of p.v row)

-- with one wagon more that costs what wagon i does, no plan saves more than the price of wagon i
abbrev pub ItsTwinSavesItsPrice : Type 0
ItsTwinSavesItsPrice =
    (p : PricedPlan) → IsCertified p → (i : ℕ) → i < wagon_count p.table → NoneSavesMore p (with_wagon p.table (costs_at p.table i)) (slice_index p.u i)
