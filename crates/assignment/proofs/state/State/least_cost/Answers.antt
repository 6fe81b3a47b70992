use Rattle.assignment.proofs.Bounds.{least_cost_is}
use Rattle.assignment.proofs.state.State.least_cost.Goals as goal

pub returns : goal.returns
returns c = least_cost_is c.args.self.now c.args.j c.least_idle.result c.column.result.now c.column.ensures (rw (c.deref.ensures.value) at c.least_idle.ensures)
