use Rattle.exact_costs.proofs.Best.{with_more_found}
use Rattle.exact_costs.proofs.exact.ExactCosts.one_more.Goals as goal

pub overflow_sub-result : goal.overflow_sub-result
overflow_sub-result c = (with_more_found _ c.args.self.now c.cost-cost.ensures.certified c.self.view_is c.args.j c.in_ok-least_cost.field-0 c.cost-cost.result c.lack.result c.in_ok-changed.changed c.cost-cost.ensures.value c.requires c.lack.ensures.value c.in_ok-changed.ensures c.in_ok-least_cost.ensures.certified).no_less

pub returns-clause-exact : goal.returns-clause-exact
returns-clause-exact c = (with_more_found _ c.args.self.now c.cost-cost.ensures.certified c.self.view_is c.args.j c.in_ok-least_cost.field-0 c.cost-cost.result c.lack.result c.in_ok-changed.changed c.cost-cost.ensures.value c.requires c.lack.ensures.value c.in_ok-changed.ensures c.in_ok-least_cost.ensures.certified).best
