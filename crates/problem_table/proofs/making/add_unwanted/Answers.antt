use Rattle.std.proofs.Common.{◌≤◌, [], arith, refl, rules, sym}
use Rattle.problem_table.proofs.AllowedLemmas.{added_first}
use Rattle.problem_table.proofs.GoalSteps.{row_end, row_start}
use Rattle.problem_table.proofs.making.add_unwanted.Goals as goal

pub returns-clause-row : goal.returns-clause-row
returns-clause-row c =
    let within : c.args.problem.now.at ≤ 18446744073709551615 = omega (arith, c.at.ensures, c.for_the_prover.ensures) in
    record {
      row = [];
      last = 18446744073709551615;
      more = record { shared = search rules; placed = search rules; rows = search rules; moments = search rules };
      within = within;
      is = added_first c.args._tables.now c.args.problem.now.at c.args.wagon.now c.args.problem.now.orders [] [] 18446744073709551615 refl within (λ m l u.
          row_end c.args._tables.now m c.args.wagon.now c.args.problem.now.orders [] [] [] refl (row_start c.args._tables.now m c.args.wagon.now c.args.problem.now.orders [] [] (sym c.requires.unwanted)));
    }
