use Rattle.std.proofs.Common.{arith}
use Rattle.cost_table.proofs.CostLemmas.{orders_in_range, spared_or_missed}
use Rattle.cost_table.proofs.plan_cost.cost.Goals as goal

pub spared_cost-requires : goal.spared_cost-requires
spared_cost-requires c = orders_in_range c.args.cells.now c.args.pairs.now c.requires.allowed

pub overflow_sub-missed : goal.overflow_sub-missed
overflow_sub-missed c = omega (arith, spared_or_missed c.args.cells.now c.args.pairs.now c.requires, c.spared_cost.ensures, c.from.ensures, c.idle_cost.ensures.value)

pub returns : goal.returns
returns c = omega (arith, spared_or_missed c.args.cells.now c.args.pairs.now c.requires, c.spared_cost.ensures, c.from.ensures, c.idle_cost.ensures.value, c.served_cost-served.ensures.value)
