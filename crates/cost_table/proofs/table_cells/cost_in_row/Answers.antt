use Rattle.std.proofs.Common.{◌∙◌, sym}
use Rattle.cost_table.proofs.PartLemmas.{cost_first, cost_rest}
use Rattle.cost_table.proofs.table_cells.cost_in_row.Goals as goal

pub returns-in-Some : goal.returns-in-Some
returns-in-Some c = sym (cost_first c.args.row.first.now c.args.row.rest.now c.args.order c.in-Some.cost (sym c.find_cost.ensures ∙ c.in-Some.is))

pub returns-in-None : goal.returns-in-None
returns-in-None c = c.find_cost-in-None.ensures ∙ sym (cost_rest c.args.row.first.now c.args.row.rest.now c.args.order (sym c.find_cost.ensures ∙ c.in-None.is))
