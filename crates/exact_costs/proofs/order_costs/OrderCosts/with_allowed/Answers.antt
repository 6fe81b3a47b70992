use Rattle.exact_costs.proofs.OneLess.{with_idle_is}
use Rattle.exact_costs.proofs.order_costs.OrderCosts.with_allowed.Goals as goal

pub overflow_sub-result : goal.overflow_sub-result
overflow_sub-result c = (with_idle_is _ c.args.self.now c.self.view_is c.cost-cost.ensures.certified c.least.ensures.less c.args.i c.args.km c.cost-cost.result c.least.result c.cost-cost.ensures.value c.least.ensures.value c.requires.idle c.requires.allowed c.requires.cost).no_less

pub returns : goal.returns
returns c = (with_idle_is _ c.args.self.now c.self.view_is c.cost-cost.ensures.certified c.least.ensures.less c.args.i c.args.km c.cost-cost.result c.least.result c.cost-cost.ensures.value c.least.ensures.value c.requires.idle c.requires.allowed c.requires.cost).best
