use Rattle.std.proofs.Common.{◌∙◌, ℕ, ◌++◌, List, Some, None, [], rules, refl, sym, ap, append-nil, append_assoc, arith}
use Rattle.std.proofs.lemmas.List.{drop_all}
use Rattle.cost_table.specs.RowParts.{cells_in}
use Rattle.problem_table.proofs.AllowedLemmas.{added_first}
use Rattle.problem_table.proofs.GoalSteps.{left_first, next_within, row_step, row_end}
use Rattle.problem_table.proofs.allowed.push_goals.Goals as goal
use Rattle.problem_table.proofs.allowed.push_goals.Goals.{in-Some, in_default}

pub loop-goal-init : goal.loop-goal-init
loop-goal-init c = record {
  row = rw c.reserve.ensures.items c.requires.so_far;
  within = c.requires.within;
  room = search rules;
}

pub way_to-requires-clause-goal : goal.way_to-requires-clause-goal
way_to-requires-clause-goal c =
    let first = left_first c.args.goals.now c.loop-goal.goal-index c.goal-item.result c.loop-goal-test.true c.goal-item.is in
    next_within c.args.tables.now c.args.problem.now.at c.args.wagon.now c.args.problem.now.orders c.goal-item.result _ _ [] _ first (c.loop-goal.invariant.row c.args.problem.now.at (omega arith) c.loop-goal.invariant.within)

pub loop-goal-preserved : goal.loop-goal-preserved
loop-goal-preserved c =
    let first = left_first c.args.goals.now c.loop-goal.goal-index c.goal-item.result c.loop-goal-test.true c.goal-item.is in
    elim c.match-way_to.branch [
      | in-Some w ↦ record {
        row = λ m l u.
            row_step c.args.tables.now m c.args.wagon.now c.args.problem.now.orders c.goal-item.result _ _ (Some w.in-Some.way.km) _ _ _ first (c.loop-goal.invariant.row m l (omega (arith, u, w.last-is, w.min-last.ensures)))
            (w.in-Some.ensures.meaning m (omega (arith, l, c.at-at.ensures)) (omega (arith, u, w.last-is, w.min-last.ensures))) w.in-Some.ensures.limit
            (rw w.entries-is (ap (λ (more : List (ℕ × ℕ)). cells_in c.args._first ++ more) w.push_reserved.ensures.items ∙ sym (append_assoc (cells_in c.args._first) _ _)));
        within = omega (arith, c.loop-goal.invariant.within, w.last-is, w.min-last.ensures, w.in-Some.ensures.within, c.at-at.ensures);
        room = rw w.entries-is (omega (arith, w.push_reserved.ensures.len, w.push_reserved.ensures.capacity, c.loop-goal.invariant.room));
      }
      | in_default w ↦ record {
        row = λ m l u.
            row_step c.args.tables.now m c.args.wagon.now c.args.problem.now.orders c.goal-item.result _ _ None _ _ _ first (c.loop-goal.invariant.row m l (omega (arith, u, w.last-is)))
            (w.in_default.ensures.meaning m (omega (arith, l, c.at-at.ensures)) tt) tt (rw w.entries-is (sym (append-nil _)));
        within = omega (arith, c.loop-goal.invariant.within, w.last-is);
        room = rw w.entries-is (omega (arith, c.loop-goal.invariant.room));
      }
    ]

pub returns-clause-row : goal.returns-clause-row
returns-clause-row c =
    added_first c.args.tables.now c.args.problem.now.at c.args.wagon.now c.args.problem.now.orders [] _ _ refl c.loop-goal.invariant.within (λ m l u. row_end c.args.tables.now m c.args.wagon.now c.args.problem.now.orders _ _ _ (drop_all c.loop-goal.goal-index c.args.goals.now (omega arith)) (c.loop-goal.invariant.row m l u))
