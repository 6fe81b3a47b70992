use Rattle.std.proofs.Common.{◌∙◌}
use Rattle.exact_costs.proofs.MoreWagons.{new_pair_found}
use Rattle.exact_costs.proofs.exact.ExactCosts.has_new_pair.Goals as goal

pub returns-in-Some-clause-some : goal.returns-in-Some-clause-some
returns-in-Some-clause-some c = λ is. new_pair_found c.new-bounds.result c.args.self.now (c.new-bounds.ensures ∙ c.self.view_is) c.args.j c.in-Some.field-0 c.requires c.in-Some.ensures.value
