use Rattle.std.proofs.Common.{◌≡◌, ℕ, ◌∙◌, ap, arith, subst}
use Rattle.cost_table.specs.Table.{Table, lack_at}
use Rattle.assignment.specs.inner.Taken.{HasTaken}
use Rattle.assignment.proofs.Taking.{HasTaken-more, room_kept}
use Rattle.assignment.proofs.planner.serve_order.Goals as goal

pub units-init : goal.units-init
units-init c =
    let at_hand = c.serve_at_hand-served.ensures.taken in
    record { taken = at_hand; room = room_kept c.args.state.now c.serve_at_hand-served.new.state c.args.search.now at_hand.table at_hand.groups c.requires.room }

pub serve_unit-requires-clause-order : goal.serve_unit-requires-clause-order
serve_unit-requires-clause-order c = rw c.units.invariant.taken.table c.requires.order

pub units-preserved : goal.units-preserved
units-preserved c = record {
  taken = HasTaken-more c.args.state.now c.units.state c.serve_unit.new.state c.args.j c.units._unit c.units.invariant.taken c.serve_unit.ensures.taken;
  room = c.serve_unit.ensures.room;
}

pub returns-clause-taken : goal.returns-clause-taken
returns-clause-taken c =
    let j = c.args.j in
    let at_hand = c.serve_at_hand-served.ensures in
    let limit = at_hand.limit in
    let lack : c.lack-unit-end.result ≡ lack_at c.args.state.now.cells.now j = c.lack-unit-end.ensures.value ∙ ap (λ (t : Table). lack_at t j) at_hand.taken.table in
    let most = c.units.auto._unit-end (omega (arith, limit, lack)) in
    let all : c.units._unit ≡ lack_at c.args.state.now.cells.now j = omega (arith, most, lack, c.units-test.false) in
    subst (λ (n : ℕ). HasTaken c.args.state.now c.units.state j n) all c.units.invariant.taken
