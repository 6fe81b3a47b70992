-- A certified plan of the table in which an order lacks one wagon less.
use Rattle.std.specs.Prelude.{◌≡◌, ◌<◌, ℕ}
use Rattle.cost_table.specs.Table.{order_count}
use Rattle.cost_table.specs.TableLimits.{IsTable}
use Rattle.plan_bounds.specs.PricedPlan.{IsCertified, PricedPlan}
use Rattle.exact_costs.specs.inner.Changed.{one_less}

pub record IsOneLess (p : PricedPlan) (j : ℕ) (less : PricedPlan) : Type 0 where
  pub legal : IsTable p.table
  pub order : j < order_count p.table
  pub table : less.table ≡ one_less p.table j
  pub certified : IsCertified less
