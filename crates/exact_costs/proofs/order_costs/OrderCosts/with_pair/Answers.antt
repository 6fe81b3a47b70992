use Rattle.std.proofs.Common.{subst}
use Rattle.std.specs.Prelude.{◌↔◌, IfOk, IsSome}
use Rattle.cost_table.specs.Plan.{IsAllowed}
use Rattle.exact_costs.specs.OrderCosts.{OrderCostsValue}
use Rattle.exact_costs.proofs.order_costs.OrderCosts.with_pair.Goals as goal

pub returns-then-times_used-gt0-clause-allowed : goal.returns-then-times_used-gt0-clause-allowed
returns-then-times_used-gt0-clause-allowed c =
    subst (λ (o : OrderCostsValue). IfOk c.with_pair.result (λ more. IsSome more ↔ IsAllowed o.priced.table (c.args.i, o.order))) c.self.view_is c.with_pair.ensures.allowed
