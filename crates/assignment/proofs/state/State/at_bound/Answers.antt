use Rattle.std.proofs.Common.{arith}
use Rattle.assignment.proofs.Bounds.{first_read}
use Rattle.assignment.proofs.state.State.at_bound.Goals as goal

pub returns-clause-some : goal.returns-clause-some
returns-clause-some c = (first_read c.args.self.now c.args.j c.index.result.now _ _ c.column.result.now c.requires.state c.requires.order c.index.ensures (omega (arith, c.if-group-len.false, c.len.ensures, c.args.self.now.idle.ok.0)) c.index-wagon.ensures c.if-wagon.false c.column.ensures (omega (arith, c.if-column-group.false))).idle_at

pub returns-clause-head : goal.returns-clause-head
returns-clause-head c = (first_read c.args.self.now c.args.j c.index.result.now _ _ c.column.result.now c.requires.state c.requires.order c.index.ensures (omega (arith, c.if-group-len.false, c.len.ensures, c.args.self.now.idle.ok.0)) c.index-wagon.ensures c.if-wagon.false c.column.ensures (omega (arith, c.if-column-group.false))).head
