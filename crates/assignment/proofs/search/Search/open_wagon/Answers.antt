use Rattle.std.proofs.Common.{◌<◌, ℕ, sym, arith, subst}
use Rattle.std.proofs.lemmas.List.{get_or_read}
use Rattle.assignment.specs.inner.State.{kept}
use Rattle.assignment.specs.inner.Search.{IsWalking, distance_at}
use Rattle.assignment.proofs.Walking.{read_wagon, walking_next}
use Rattle.assignment.proofs.search.Search.open_wagon.Goals as goal

pub index-requires-in-wagons : goal.index-requires-in-wagons
index-requires-in-wagons c =
    let at = read_wagon c.args.state.now c.args.self.now c.args.group c.wagons.wagon _ _ c.requires.state c.requires.search c.requires.group c.wagons.invariant c.wagons-test.true c.index.ensures in
    let within = at.order_within in
    omega (arith, within, c.args.self.now.order_distance.ok.0)

pub returns-then-index-ge-FAR-clause-some : goal.returns-then-index-ge-FAR-clause-some
returns-then-index-ge-FAR-clause-some c =
    let at = read_wagon c.args.state.now c.args.self.now c.args.group c.wagons.wagon _ _ c.requires.state c.requires.search c.requires.group c.wagons.invariant c.wagons-test.true c.index.ensures in
    let far = get_or_read c.args.self.now.order_distance.items _ _ at.order_within c.index-in-wagons.ensures 0 in
    record { within = at.within; group = at.group; order = c.index.result.now; held = at.held; far = omega (arith, far, c.if-index-ge-FAR.true) }

pub wagons-smaller : goal.wagons-smaller
wagons-smaller c =
    let at = read_wagon c.args.state.now c.args.self.now c.args.group c.wagons.wagon _ _ c.requires.state c.requires.search c.requires.group c.wagons.invariant c.wagons-test.true c.index.ensures in
    let within = at.within in
    let later = at.later in
    let chained = c.requires.state.groups.chained in
    let few = c.requires.state.keeps.table.wagons in
    let next = get_or_read c.args.state.now.groups.next.items c.wagons.wagon c.index-wagon-in-wagons.result.now (omega (arith, within, chained)) c.index-wagon-in-wagons.ensures 0 in
    omega (arith, later, next, within, few)

pub wagons-preserved : goal.wagons-preserved
wagons-preserved c =
    let state = c.args.state.now in
    let f = c.args.self.now in
    let at = read_wagon state f c.args.group c.wagons.wagon _ _ c.requires.state c.requires.search c.requires.group c.wagons.invariant c.wagons-test.true c.index.ensures in
    let within = at.within in
    let chained = c.requires.state.groups.chained in
    let next = get_or_read state.groups.next.items c.wagons.wagon c.index-wagon-in-wagons.result.now (omega (arith, within, chained)) c.index-wagon-in-wagons.ensures 0 in
    let far = get_or_read f.order_distance.items _ _ at.order_within c.index-in-wagons.ensures 0 in
    let near : distance_at f c.index.result.now < 4294967295 = omega (arith, far, c.if-index-ge-FAR.false) in
    subst (λ (y : ℕ). IsWalking (kept state) f c.args.group y) (sym next) (walking_next state f c.args.group c.wagons.wagon c.index.result.now c.requires.state c.wagons.invariant c.wagons-test.true at.held near)
