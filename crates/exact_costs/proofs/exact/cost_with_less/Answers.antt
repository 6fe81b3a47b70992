use Rattle.exact_costs.proofs.OneLess.{less_by}
use Rattle.exact_costs.proofs.exact.cost_with_less.Goals as goal

pub returns-clause-best : goal.returns-clause-best
returns-clause-best c = (less_by c.args.cells.now c.args.j c.in_ok-least_cost.field-0 c.in_ok-changed.changed c.for_the_prover.ensures c.requires c.in_ok-changed.ensures c.in_ok-least_cost.ensures.certified).best

pub returns-clause-no_more : goal.returns-clause-no_more
returns-clause-no_more c = (less_by c.args.cells.now c.args.j c.in_ok-least_cost.field-0 c.in_ok-changed.changed c.for_the_prover.ensures c.requires c.in_ok-changed.ensures c.in_ok-least_cost.ensures.certified).no_more
