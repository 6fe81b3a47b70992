-- Why wagons can't serve an order: tests that a free wagon passes one after the other, and how many wagons pass each.
use Rattle.std.specs.Prelude.{◌≡◌, ◌<◌, ◌↔◌, ℕ, Bool, IsTrue, List}
use Rattle.std.specs.List.{AllZip, Contains, count_by}
use Rattle.move_messages.specs.Order.{Order}
use Rattle.wagons_and_orders.specs.declared.free_wagon.FreeWagon.{FreeWagon}
use Rattle.wagons_and_orders.specs.Suits.{Suits}
use Rattle.line_network.specs.Network.{NetworkValue}
use Rattle.line_network.specs.Distance.{IsDistance}
use Rattle.problem_table.specs.Allowed.{Reaches}
use Rattle.plan_reasons.specs.declared.reasons.Counts.{Counts}
use Rattle.plan_reasons.specs.declared.reasons.Test.{Test}
use Rattle.plan_reasons.specs.declared.reasons.Test.TheVariants.{Class, Load, Way, InTime, Cheaper}

-- the order lists the wagon's class, as a whole text
abbrev pub IsOfClass : FreeWagon → Order → Type 0
IsOfClass wagon order = Contains order.classes wagon.class

-- the wagon suits the order, and a way leads to the order's place
pub record HasWay (net : NetworkValue) (wagon : FreeWagon) (order : Order) : Type 0 where
  pub suits : Suits wagon order
  pub way : ℕ × ℕ
  pub distance : IsDistance net wagon.place order.place way

-- it reaches the place by the latest moment
abbrev pub IsInTime : NetworkValue → (at : ℕ) → FreeWagon → Order → Type 0
IsInTime net at wagon order = (km : ℕ) × Reaches net at wagon order km

-- and costs less than a wagon that the order misses
pub record IsCheaper (net : NetworkValue) (at : ℕ) (wagon : FreeWagon) (order : Order) : Type 0 where
  pub km : ℕ
  pub reaches : Reaches net at wagon order km
  pub cheaper : km < order.penalty

-- the first test that the wagon fails for the order: it passes those before
abbrev pub FailsFirst : NetworkValue → (at : ℕ) → FreeWagon → Order → Test → Type 0
FailsFirst net at wagon order Class = ¬ IsOfClass wagon order
FailsFirst net at wagon order Load = IsOfClass wagon order × (¬ Suits wagon order)
FailsFirst net at wagon order Way = Suits wagon order × (¬ HasWay net wagon order)
FailsFirst net at wagon order InTime = HasWay net wagon order × (¬ IsInTime net at wagon order)
FailsFirst net at wagon order Cheaper = IsInTime net at wagon order × (¬ IsCheaper net at wagon order)

-- so many of the wagons are so: each has a mark that says whether it is, and n marks say yes
pub record IsCount (IsSo : FreeWagon → Type 0) (wagons : List FreeWagon) (n : ℕ) : Type 0 where
  pub marks : List Bool
  pub each : AllZip (λ wagon mark. IsTrue mark ↔ IsSo wagon) wagons marks
  pub count : n ≡ count_by (λ mark. mark) marks

-- how many of the wagons pass each test for an order
pub record AreCounts (net : NetworkValue) (at : ℕ) (wagons : List FreeWagon) (order : Order) (counts : Counts) : Type 0 where
  pub class : IsCount (λ wagon. IsOfClass wagon order) wagons counts.class
  pub load : IsCount (λ wagon. Suits wagon order) wagons counts.load
  pub way : IsCount (λ wagon. HasWay net wagon order) wagons counts.way
  pub in_time : IsCount (λ wagon. IsInTime net at wagon order) wagons counts.in_time
  pub cheaper : IsCount (λ wagon. IsCheaper net at wagon order) wagons counts.cheaper
