use Rattle.std.proofs.Common.{refl, arith}
use Rattle.std.specs.Vec.{with_item}
use Rattle.std.proofs.lemmas.List.{get_or_read}
use Rattle.assignment.proofs.Bounds.{first_of, idle_renewed, state_renewed}
use Rattle.assignment.proofs.Writes.{written_length}
use Rattle.assignment.proofs.state.State.renew.Goals as goal

pub returns-in-Some-clause-state : goal.returns-in-Some-clause-state
returns-in-Some-clause-state c =
    let state = c.args.self.now in
    state_renewed state c.args.j c.least_cost-least.result (with_item state.bound c.args.j c.least_cost-least.result) (with_item state.nearest c.args.j c.in-Some.group) c.requires.state c.requires.order c.least_cost-least.ensures refl (written_length state.nearest.items _ c.args.j c.in-Some.group refl)

pub returns-in-None-clause-state : goal.returns-in-None-clause-state
returns-in-None-clause-state c =
    let state = c.args.self.now in
    state_renewed state c.args.j c.least_cost-least.result (with_item state.bound c.args.j c.least_cost-least.result) state.nearest c.requires.state c.requires.order c.least_cost-least.ensures refl refl

pub returns-in-Some-clause-some : goal.returns-in-Some-clause-some
returns-in-Some-clause-some c =
    let state = c.args.self.now in
    let group = c.in-Some.ensures.some in
    let within = group.within in
    let count = c.requires.state.idle.count in
    let read = get_or_read state.idle.items c.in-Some.group c.index.result.now (omega (arith, within, count)) c.index.ensures 0 in
    idle_renewed state c.args.j c.least_cost-least.result c.index.result.now c.requires.state c.requires.order (first_of state c.args.j c.least_cost-least.result c.in-Some.group c.index.result.now c.requires.state group read).idle_at
