use Rattle.std.proofs.Common.{length, refl, arith}
use Rattle.std.specs.Vec.{with_item}
use Rattle.assignment.specs.inner.State.{kept}
use Rattle.assignment.proofs.Settle.{IsSettled, settled_room, search_settled}
use Rattle.assignment.proofs.search.Search.settle.Goals as goal

pub push_reserved-requires : goal.push_reserved-requires
push_reserved-requires c =
    let f = c.args.self.now in
    let next = c.args.next in
    let below = settled_room (kept c.args.state.now) f next.order next.distance next.wagon (length f.orders.items) c.requires.search c.requires.next in
    let count = f.orders.ok.0 in
    let room = c.requires.search.room.orders in
    omega (arith, below, count, room)

pub returns-clause-search : goal.returns-clause-search
returns-clause-search c =
    let s = kept c.args.state.now in
    let f = c.args.self.now in
    let next = c.args.next in
    let settled : IsSettled f next.order next.distance next.wagon (with_item f.order_distance next.order next.distance).items c.push_reserved.new.self.items c.push_reserved-2.new.self.items = record {
      distances_are = refl;
      orders_are = c.push_reserved.ensures.items;
      via_are = c.push_reserved-2.ensures.items;
    } in
    search_settled s f next.order next.distance next.wagon (length f.orders.items) c.args.end c.nearer-self.result (with_item f.order_distance next.order next.distance) c.push_reserved.new.self c.push_reserved-2.new.self c.requires.state.keeps c.requires.search (omega arith) c.requires.next c.requires.end c.requires.index settled c.push_reserved.ensures.capacity c.push_reserved-2.ensures.capacity c.nearer-self.ensures
