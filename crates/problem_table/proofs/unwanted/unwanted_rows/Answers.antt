use Rattle.std.proofs.Common.{◌≡◌, length, replicate, rules, arith}
use Rattle.problem_table.proofs.UnwantedLemmas.{unwanted}
use Rattle.problem_table.proofs.unwanted.unwanted_rows.Goals as goal

pub returns-clause-rows : goal.returns-clause-rows
returns-clause-rows c =
    let lasts : c.in_ok-lasts.lasts.items ≡ replicate (length c.wagons-count.result.now) 18446744073709551615 = search rules in
    rw (c.in_ok-rows.ensures.rows, lasts, c.wagons-count.ensures.wagons)
    (unwanted c.args._tables.now c.args.problem.now.at c.args.problem.now.wagons c.args.problem.now.orders 18446744073709551615 c.requires (omega (arith, c.for_the_prover.ensures)))
