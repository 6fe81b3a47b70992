use Rattle.std.proofs.Common.{sym}
use Rattle.cost_table.proofs.CostLemmas.{orders_in_range}
use Rattle.price_checker.proofs.FaultFree.{all_allowed, plan_of_pairs}
use Rattle.price_checker.proofs.checker.check_in_order.Goals as goal

pub check_used-requires : goal.check_used-requires
check_used-requires c = orders_in_range c.args.cells.now c.args.pairs.now (all_allowed c.args.cells.now c.args.pairs.now c.check_lengths.ensures.table (sym c.in_ok-check_allowed.ensures))

pub check_sums-requires-clause-plan : goal.check_sums-requires-clause-plan
check_sums-requires-clause-plan c =
    plan_of_pairs c.args.cells.now c.args.pairs.now c.check_lengths.ensures.table (sym c.in_ok-check_allowed.ensures) (sym c.in_ok-check_used.ensures)
