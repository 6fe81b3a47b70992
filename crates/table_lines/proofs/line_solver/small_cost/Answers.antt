use Rattle.std.proofs.Common.{arith}
use Rattle.table_lines.proofs.Costs.{small}
use Rattle.table_lines.proofs.line_solver.small_cost.Goals as goal

pub overflow_cast-result : goal.overflow_cast-result
overflow_cast-result c =
    let least = small c.args.cells.now c.args.plan.now c.args.prices.now.u.items c.args.prices.now.v.items c.for_the_prover.ensures c.requires.certificate in
    omega (arith, least, c.requires.cost, c.cost.ensures)
