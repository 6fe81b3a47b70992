use Rattle.plan_bounds.proofs.Identity.{slacks_are_the_difference, slacks_are_whole}
use Rattle.plan_bounds.proofs.OtherPlans.{least_plans_have_no_slack}
use Rattle.plan_bounds.proofs.laws.slacks_are_the_difference.Goals as goal

pub returns : goal.returns
returns c = record { identity = slacks_are_the_difference; whole = slacks_are_whole; least = least_plans_have_no_slack }
