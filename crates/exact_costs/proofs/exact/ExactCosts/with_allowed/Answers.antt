use Rattle.exact_costs.proofs.Best.{with_pair_found}
use Rattle.exact_costs.proofs.exact.ExactCosts.with_allowed.Goals as goal

pub overflow_sub-result : goal.overflow_sub-result
overflow_sub-result c = (with_pair_found c.args.self.now c.cost-cost.ensures.certified c.self.view_is c.args.i c.args.j c.args.km c.in_ok-least_cost.field-0 c.cost-cost.result c.in_ok-changed.changed c.cost-cost.ensures.value c.for_the_prover.ensures c.requires.allowed c.requires.cost c.in_ok-changed.ensures c.in_ok-least_cost.ensures.certified).no_less

pub returns : goal.returns
returns c = (with_pair_found c.args.self.now c.cost-cost.ensures.certified c.self.view_is c.args.i c.args.j c.args.km c.in_ok-least_cost.field-0 c.cost-cost.result c.in_ok-changed.changed c.cost-cost.ensures.value c.for_the_prover.ensures c.requires.allowed c.requires.cost c.in_ok-changed.ensures c.in_ok-least_cost.ensures.certified).best
