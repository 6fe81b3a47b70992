use Rattle.std.proofs.Common.{ap, ◌∙◌}
use Rattle.cost_table.specs.Problem.{names_of_problem}
use Rattle.cost_table.proofs.NameLemmas.{found_pair, held_pair}
use Rattle.cost_table.proofs.ProblemLemmas.{pair_of-names}
use Rattle.cost_table.proofs.problem.Problem.pair_of.Goals as goal

pub returns-clause-value : goal.returns-clause-value
returns-clause-value c =
    rw (← c.self.view_is) ((rw (c.deref-2.ensures.value, c.deref.ensures, c.deref-4.ensures.value, c.deref-3.ensures) at c.positions.ensures) ∙ pair_of-names (record { at = c.self.inside.at; wagons = c.self.inside.wagons.value.items; orders = c.self.inside.orders.value.items }) c.args.number c.args.id)

pub returns-clause-found : goal.returns-clause-found
returns-clause-found c = found_pair (names_of_problem c.args.self.now) c.args.number c.args.id c.positions.result (returns-clause-value c)

pub returns-clause-held : goal.returns-clause-held
returns-clause-held c =
    held_pair (names_of_problem (record { at = c.self.inside.at; wagons = c.self.inside.wagons.value.items; orders = c.self.inside.orders.value.items })) (names_of_problem c.args.self.now) c.args.number c.args.id c.positions.result (ap names_of_problem c.self.view_is) (c.self.invariant.each_wagon_once, c.self.invariant.each_order_once) (returns-clause-value c)
