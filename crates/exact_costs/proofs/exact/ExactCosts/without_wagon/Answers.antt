use Rattle.exact_costs.proofs.Best.{without_found}
use Rattle.exact_costs.proofs.exact.ExactCosts.without_wagon.Goals as goal

pub overflow_sub-result : goal.overflow_sub-result
overflow_sub-result c = (without_found c.args.self.now c.cost-cost.ensures.certified c.self.view_is c.args.i c.in_ok-least_cost.field-0 c.cost-cost.result c.in_ok-changed.changed c.cost-cost.ensures.value c.requires c.in_ok-changed.ensures c.in_ok-least_cost.ensures.certified).no_less

pub returns-clause-idle : goal.returns-clause-idle
returns-clause-idle c = (without_found c.args.self.now c.cost-cost.ensures.certified c.self.view_is c.args.i c.in_ok-least_cost.field-0 c.cost-cost.result c.in_ok-changed.changed c.cost-cost.ensures.value c.requires c.in_ok-changed.ensures c.in_ok-least_cost.ensures.certified).idle

pub returns-clause-without : goal.returns-clause-without
returns-clause-without c = (without_found c.args.self.now c.cost-cost.ensures.certified c.self.view_is c.args.i c.in_ok-least_cost.field-0 c.cost-cost.result c.in_ok-changed.changed c.cost-cost.ensures.value c.requires c.in_ok-changed.ensures c.in_ok-least_cost.ensures.certified).without
