use Rattle.std.proofs.Common.{◌≡◌, ◌+◌, ◌<◌, Some, set, get_or, refl, sym, ◌∙◌, ap, arith, subst}
use Rattle.std.specs.Vec.{with_item}
use Rattle.std.proofs.lemmas.List.{get_or_read}
use Rattle.std.proofs.lemmas.List.Sums.{count_by-le-length}
use Rattle.cost_table.specs.Table.{order_count}
use Rattle.assignment.specs.declared.state.State.{State}
use Rattle.assignment.specs.inner.State.{IsAtHand, IsHead, Kept, has_order, kept}
use Rattle.assignment.specs.inner.Taken.{HasTaken}
use Rattle.assignment.proofs.AtHand.{taken_at_hand}
use Rattle.assignment.proofs.Taking.{HasTaken-none, HasTaken-same}
use Rattle.assignment.proofs.planner.serve_at_hand.Goals as goal

pub units-init : goal.units-init
units-init c = record { taken = HasTaken-none c.args.state.now c.args.j c.requires.state; limit = omega arith }

pub overflow_add-index_mut : goal.overflow_add-index_mut
overflow_add-index_mut c =
    let state = c.at_hand.new.self in
    let found = c.at_hand.ensures in
    let j = c.args.j in
    let order = c.requires.order in
    let same = ap (λ (x : State). order_count x.cells.now) found.same ∙ ap order_count c.units.invariant.taken.table in
    let counts = found.state.served.count in
    let read = get_or_read state.served.items j c.index_mut-in-units.result.now (omega (arith, order, same, counts)) c.index_mut-in-units.ensures.value 0 in
    let is = found.state.served.each j (omega (arith, order, same)) in
    let most = count_by-le-length (has_order j) (kept state).order_of in
    let wagons = found.state.keeps.held.wagons in
    let few = found.state.keeps.table.wagons in
    omega (arith, read, is, most, wagons, few)

pub units-preserved : goal.units-preserved
units-preserved c =
    let before = c.units.state in
    let state = c.at_hand.new.self in
    let found = c.at_hand.ensures in
    let j = c.args.j in
    let wagon = c.in-Some.wagon in
    let order = c.requires.order in
    let same = ap (λ (x : State). order_count x.cells.now) found.same ∙ ap order_count c.units.invariant.taken.table in
    let lj : j < order_count state.cells.now = omega (arith, order, same) in
    let counts = found.state.served.count in
    let read = get_or_read state.served.items j c.index_mut-in-units.result.now (omega (arith, lj, counts)) c.index_mut-in-units.ensures.value 0 in
    let taken : HasTaken c.args.state.now state j c.units.served = HasTaken-same c.args.state.now before state j c.units.served found.state found.same c.units.invariant.taken in
    let at : IsAtHand (kept state) j wagon = subst (λ (s : Kept). IsAtHand s j wagon) (sym (ap kept found.same)) c.in-Some.ensures.some in
    let head : IsHead state (Some wagon) = subst (λ (x : State). IsHead x (Some wagon)) (sym found.same) (subst (IsHead before) c.in-Some.is found.head) in
    let number : (with_item state.served j (c.index_mut-in-units.result.now + 1)).items ≡ set state.served.items j (get_or state.served.items j 0 + 1) = ap (λ x. set state.served.items j (x + 1)) read in
    record {
      taken = taken_at_hand c.args.state.now state c.take.new.self j c.units.served wagon (with_item state.order_of wagon j) (with_item state.served j (c.index_mut-in-units.result.now + 1)) c.take.new.self.idle taken at head lj refl number c.take.ensures.items c.take.ensures.same;
      limit = omega (arith, c.units-test.true);
    }
