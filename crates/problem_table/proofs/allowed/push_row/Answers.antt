use Rattle.std.proofs.Common.{[]}
use Rattle.problem_table.proofs.GoalSteps.{row_start}
use Rattle.problem_table.proofs.allowed.push_row.Goals as goal

pub push_goals-requires-clause-so_far : goal.push_goals-requires-clause-so_far
push_goals-requires-clause-so_far c = rw c.requires.none (λ m l u. row_start c.args.tables.now m c.args.wagon.now c.args.problem.now.orders c.args.goals.now [] c.requires.goals)
