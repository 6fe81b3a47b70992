-- Numbers as lines print them: whole numbers of at most 128 bits.
use Rattle.std.specs.Prelude.{◌<◌, ◌^◌, ℕ, length, IfSome, Option}
use Rattle.cost_table.specs.Problem.{ProblemValue}
use Rattle.cost_table.specs.Table.{lack_at}
use Rattle.cost_table.specs.Plan.{serves}
use Rattle.plan_bounds.specs.PricedPlan.{PricedPlan, certified_cost}
use Rattle.exact_costs.specs.declared.further.Further.{Further}
use Rattle.exact_costs.specs.declared.further.Further.TheVariants.{Exactly, Over, Never}
use Rattle.plan_reasons.specs.declared.reasons.Counts.{Counts}

-- a number of at most 128 bits
abbrev pub IsPrinted : ℕ → Type 0
IsPrinted n = n < 2 ^ 128

-- the numbers of the line of the whole: free wagons, orders, cost, wagons that go, and wagons that the orders miss
pub record ArePlanNumbers (problem : ProblemValue) (p : PricedPlan) (missed : ℕ) : Type 0 where
  pub free : IsPrinted (length problem.wagons)
  pub orders : IsPrinted (length problem.orders)
  pub cost : IsPrinted (certified_cost p)
  pub go : IsPrinted (length p.pairs)
  pub miss : IsPrinted missed

-- how many wagons order j lacks, and how many it gets
pub record AreOrderNumbers (p : PricedPlan) (j : ℕ) : Type 0 where
  pub lacks : IsPrinted (lack_at p.table j)
  pub gets : IsPrinted (serves j p.pairs)

-- how many wagons pass each test
pub record AreCountNumbers (counts : Counts) : Type 0 where
  pub class : IsPrinted counts.class
  pub load : IsPrinted counts.load
  pub way : IsPrinted counts.way
  pub in_time : IsPrinted counts.in_time
  pub cheaper : IsPrinted counts.cheaper

-- what plans cost more that give an order more, where a number is printed
abbrev pub IsFurtherPrinted : Further → Type 0
IsFurtherPrinted (Exactly km) = IsPrinted km
IsFurtherPrinted (Over km) = Unit {0}
IsFurtherPrinted Never = Unit {0}

-- what one wagon more costs, if there may be one, what one less saves, and what it costs to give the order more, if it misses one
pub record AreChangeNumbers (more : Option ℕ) (less : ℕ) (further : Option Further) : Type 0 where
  pub costs : IfSome more IsPrinted
  pub saves : IsPrinted less
  pub gives_more : IfSome further IsFurtherPrinted
