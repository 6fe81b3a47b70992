use Rattle.std.proofs.Common.{sym, append-nil}
use Rattle.problem_table.proofs.GoalLemmas.{goals_next}
use Rattle.problem_table.proofs.goals.goals.Goals as goal
use Rattle.problem_table.proofs.goals.goals.Goals.{in-Some+in_ok-push, in_default}

pub loop-j-preserved : goal.loop-j-preserved
loop-j-preserved c =
    let next = goals_next c.args.network.now c.args.class c.args.first c.args.orders.now c.loop-j.j c.index-orders-j.result c.goal_of.result in
    elim c.match-goal_of.branch [
      | in-Some+in_ok-push w ↦ next _ _ c.loop-j-test.true c.index-orders-j.is c.goal_of.ensures c.loop-j.invariant (rw (w.in-Some.is, w.goals-is) w.in_ok-push.ensures.items)
      | in_default w ↦ next _ _ c.loop-j-test.true c.index-orders-j.is c.goal_of.ensures c.loop-j.invariant (rw (w.in_default.is, w.goals-is) (sym (append-nil _)))
    ]
