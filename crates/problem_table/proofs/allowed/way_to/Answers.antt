use Rattle.std.proofs.Common.{◌∙◌, ℕ, Option, rules, subst, sym, arith}
use Rattle.line_network.specs.DistanceAnswers.{IsAnswered}
use Rattle.problem_table.proofs.GoalLemmas.{goal_place, reached_goal}
use Rattle.problem_table.proofs.allowed.way_to.Goals as goal

pub returns-clause-meaning : goal.returns-clause-meaning
returns-clause-meaning c = λ m later within wanted of_order km.
    let distance = subst (λ (d : Option (ℕ × ℕ)). IsAnswered c.args.tables.now c.args.wagon.now.place wanted.order.place d) c.in_ok-km.was (c.between_numbers.ensures.meaning c.args.wagon.now.place wanted.order.place (sym c.requires.from ∙ c.in_ok-number.was) (goal_place c.args.tables.now m c.args.wagon.now c.args.goal.order wanted c.args.goal of_order)) in
    reached_goal c.args.tables.now m c.args.wagon.now c.args.goal.order wanted c.args.goal (c.in_ok-km.km, c.in_ok-km.minutes) of_order (search rules) distance (omega (arith, within, c.in_ok-last_start.ensures.last, c.in_ok-last_start.ensures.in_time)) km
