use Rattle.std.proofs.Common.{ap, sym, arith, subst, refl, get_or, ◌<◌}
use Rattle.std.specs.Vec.{with_item}
use Rattle.std.proofs.lemmas.List.{get_or_read}
use Rattle.cost_table.specs.Table.{wagon_count}
use Rattle.assignment.specs.declared.state.State.{State}
use Rattle.assignment.specs.inner.State.{kept, orders_of}
use Rattle.assignment.specs.inner.Search.{distance_at, settled_at}
use Rattle.assignment.proofs.HandOn.{handing_more, handing_all, handing_none, order_written, reached_then, reached_before, search_of, search_of_state}
use Rattle.assignment.proofs.Numbers.{orders_length}
use Rattle.assignment.proofs.path.hand_on.Goals as goal

pub loop-index-init : goal.loop-index-init
loop-index-init c = record { handing = handing_none (kept c.args.state.now) c.args.search.now c.args.wagon c.args.index c.requires.path (let l = c.requires.wagon in let e = orders_length c.args.state.now.order_of.items in omega (arith, l, e)) c.requires.apart c.requires.reached; same = refl }

pub index_of-index-requires : goal.index_of-index-requires
index_of-index-requires c =
    let f = c.args.search.now in
    let state = c.args.state.now in
    let index = c.loop-index.index in
    let path = c.requires.path in
    let within = c.loop-index.invariant.handing.from.within in
    let settled = path.search.settled in
    let now : State = record c.loop-index.state { order_of = with_item c.loop-index.state.order_of c.loop-index.wagon c.index.result.now } in
    let same = ap (λ (x : State). record x { order_of = now.order_of }) c.loop-index.invariant.same in
    let led = settled.led index c.loop-index-test.true within in
    record {
      search = search_of state now f same (search_of_state state f c.requires.state path);
      end = within;
      wagon = subst (λ (x : State). get_or f.via.items index 0 < wagon_count x.cells.now) (sym same) led.wagon;
      reached = reached_then state now f (distance_at f (settled_at f index)) index _ same led.reached;
    }

pub loop-index-preserved : goal.loop-index-preserved
loop-index-preserved c =
    let f = c.args.search.now in
    let state = c.args.state.now in
    let s = kept state in
    let keeps = c.requires.state.keeps in
    let path = c.requires.path in
    let index = c.loop-index.index in
    let wagon = c.loop-index.wagon in
    let numbers = c.loop-index.state.order_of.items in
    let h = orders_of numbers in
    let handing = c.loop-index.invariant.handing in
    let within = handing.from.within in
    let settled = path.search.settled in
    let vias = settled.vias in
    let now : State = record c.loop-index.state { order_of = with_item c.loop-index.state.order_of wagon c.index.result.now } in
    let same = ap (λ (x : State). record x { order_of = now.order_of }) c.loop-index.invariant.same in
    let via = get_or_read f.via.items index c.index-wagon.result.now (omega (arith, within, vias)) c.index-wagon.ensures 0 in
    let written = order_written s f _ numbers wagon index c.index.result.now keeps path.search within c.index.ensures in
    let from = reached_before state now f (distance_at f (settled_at f index)) _ c.index_of-index.result same c.index_of-index.ensures.from in
    record {
      handing = handing_more s f h _ c.args.wagon wagon index c.index-wagon.result.now c.index_of-index.result keeps path handing c.loop-index-test.true written via c.index_of-index.ensures.before (rw via from);
      same = same;
    }

pub returns-clause-handed_on : goal.returns-clause-handed_on
returns-clause-handed_on c =
    (handing_all _ _ _ c.loop-index.state.order_of.items c.args.wagon c.loop-index.wagon c.loop-index.index c.index-2.result.now c.requires.state.keeps c.requires.path.search c.loop-index.invariant.handing (omega (arith, c.loop-index-test.false)) c.index-2.ensures).handed_on

pub returns-clause-count : goal.returns-clause-count
returns-clause-count c =
    (handing_all _ _ _ c.loop-index.state.order_of.items c.args.wagon c.loop-index.wagon c.loop-index.index c.index-2.result.now c.requires.state.keeps c.requires.path.search c.loop-index.invariant.handing (omega (arith, c.loop-index-test.false)) c.index-2.ensures).count

pub returns-clause-wagons : goal.returns-clause-wagons
returns-clause-wagons c =
    (handing_all _ _ _ c.loop-index.state.order_of.items c.args.wagon c.loop-index.wagon c.loop-index.index c.index-2.result.now c.requires.state.keeps c.requires.path.search c.loop-index.invariant.handing (omega (arith, c.loop-index-test.false)) c.index-2.ensures).wagons

pub returns-clause-given : goal.returns-clause-given
returns-clause-given c =
    (handing_all _ _ _ c.loop-index.state.order_of.items c.args.wagon c.loop-index.wagon c.loop-index.index c.index-2.result.now c.requires.state.keeps c.requires.path.search c.loop-index.invariant.handing (omega (arith, c.loop-index-test.false)) c.index-2.ensures).given
