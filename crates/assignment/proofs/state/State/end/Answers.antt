use Rattle.std.proofs.Common.{◌≡◌, ◌∙◌, ap, arith}
use Rattle.std.proofs.lemmas.List.{get_or_read}
use Rattle.cost_table.specs.Table.{order_count, penalty_at}
use Rattle.assignment.specs.declared.state.State.{State}
use Rattle.assignment.proofs.Bounds.{chosen_head, end_found, end_near}
use Rattle.assignment.proofs.state.State.end.Goals as goal

pub returns-then-near-best-clause-end : goal.returns-then-near-best-clause-end
returns-then-near-best-clause-end c = end_near c.args.self.now c.args.j c.args.distance c.args.best c.least_end-near.result c.args.index c.requires.state c.requires.order c.least_end-near.ensures c.if-near-best.true

pub returns-clause-end : goal.returns-clause-end
returns-clause-end c =
    let state = c.args.self.now in
    let state' = c.nearest_idle-wagon.new.self in
    let found = c.nearest_idle-wagon.ensures in
    let order = c.requires.order in
    let table : state'.cells.now ≡ state.cells.now = ap (λ (x : State). x.cells.now) found.same in
    let orders = ap order_count table in
    let count = found.state.bounds.count in
    let bound = get_or_read state'.bound.items c.args.j c.index.result.now (omega (arith, order, orders, count)) c.index.ensures 0 in
    let penalty : c.penalty.result ≡ penalty_at state.cells.now c.args.j = c.penalty.ensures.value ∙ ap (λ t. penalty_at t c.args.j) table in
    end_found state state' c.args.j c.args.distance c.args.best c.least_end.result c.args.index c.nearest_idle-wagon.result c.if_at_most.result found.state found.same order found.some found.none c.least_end.ensures
    (λ le. c.if_at_most.ensures.at_most (omega (arith, le, bound, penalty))) (λ less. c.if_at_most.ensures.above (omega (arith, less, bound, penalty)))

pub returns-clause-head : goal.returns-clause-head
returns-clause-head c = chosen_head c.args.self.now c.index.result.now c.penalty.result c.nearest_idle-wagon.result c.if_at_most.result c.nearest_idle-wagon.ensures.head c.if_at_most.ensures.at_most c.if_at_most.ensures.above
