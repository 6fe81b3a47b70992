-- What is needed to give an order more wagons.
use Rattle.std.specs.Prelude.{ℕ}
use Rattle.plan_bounds.specs.PricedPlan.{PricedPlan}
use Rattle.plan_bounds.specs.Bounds.{IsNewPair}

-- a pair of order j is allowed that the certified plan doesn't have
abbrev pub HasNewPair : PricedPlan → (j : ℕ) → Type 0
HasNewPair p j = (i : ℕ) × IsNewPair p i j
