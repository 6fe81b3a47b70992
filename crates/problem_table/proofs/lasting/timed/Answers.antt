use Rattle.std.proofs.Common.{◌≡◌, ◌∙◌, ap, arith}
use Rattle.cost_table.specs.Problem.{lacks_of, penalties_of}
use Rattle.cost_table.specs.SharedRows.{rows_in}
use Rattle.problem_table.proofs.AllowedLemmas.{IsTable-with, rows_for_orders}
use Rattle.problem_table.proofs.lasting.timed.Goals as goal

pub of_rows-cells-requires : goal.of_rows-cells-requires
of_rows-cells-requires c =
    let problem = c.args.problem.now in
    let rows = rows_in c.args.rows in
    let penalties : c.in_ok-penalties.penalties.items ≡ penalties_of problem.orders = c.in_ok-penalties.ensures.value ∙ ap penalties_of c.orders-orders.ensures.orders in
    let lacks : c.in_ok-lacks.lacks.items ≡ lacks_of problem.orders = c.in_ok-lacks.ensures.value ∙ ap lacks_of c.orders-orders.ensures.orders in
    rw (penalties, lacks) (record {
      placed = c.requires.placed;
      rows = rows_for_orders problem rows c.requires.ascend;
      table = IsTable-with problem rows c.orders-orders.ensures.problem c.requires.count c.requires.ascend (rw (← penalties) c.in_ok-penalties.ensures.limit) (rw (← lacks) c.in_ok-lacks.ensures.limit);
    })

pub returns-clause-within : goal.returns-clause-within
returns-clause-within c = c.earliest-until.ensures.held c.args.problem.now.at (omega (arith, c.at.ensures, c.for_the_prover.ensures.1)) (rw c.deref.ensures.value c.requires.within)
