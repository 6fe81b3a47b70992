use Rattle.std.proofs.Common.{◌≡◌, length, ◌-◌, ◌∙◌, rules, sym}
use Rattle.problem_table.proofs.GoalLemmas.{class_found, class_last}
use Rattle.problem_table.proofs.goals.class_position.Goals as goal

pub returns-in-Some-clause-class : goal.returns-in-Some-clause-class
returns-in-Some-clause-class c = (class_found c.args.found.now.items c.args.class c.in-Some.k (rw c.deref.ensures.value at (sym c.position_of_class.ensures ∙ c.in-Some.is))).1

pub returns-clause-class : goal.returns-clause-class
returns-clause-class c = λ d.
    let last : c.len.result - 1 ≡ length c.args.found.now.items = search rules in
    rw c.in_ok-push.ensures.items (class_last c.args.found.now.items (record { class = c.args.class; goals = c.in_ok-goals.goals }) d (c.len.result - 1) last)
