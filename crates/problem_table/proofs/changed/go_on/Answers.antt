use Rattle.std.proofs.Common.{[], refl, rules}
use Rattle.std.proofs.lemmas.List.{drop_all}
use Rattle.problem_table.proofs.AllowedLemmas.{added_first}
use Rattle.problem_table.proofs.GoalSteps.{row_end}
use Rattle.problem_table.proofs.changed.go_on.Goals as goal

pub returns-then-is_empty-clause-row : goal.returns-then-is_empty-clause-row
returns-then-is_empty-clause-row c =
    added_first c.args.tables.now c.args.problem.now.at c.args.wagon.now c.args.problem.now.orders [] _ _ refl c.requires.within (λ m l u. row_end c.args.tables.now m c.args.wagon.now c.args.problem.now.orders _ _ _ (drop_all 0 c.args.goals.now (search rules)) (c.requires.so_far m l u))
