use Rattle.std.proofs.Common.{arith, inl, inr, get_or, subst}
use Rattle.std.proofs.lemmas.Bool.{cases_eq}
use Rattle.assignment.specs.inner.State.{kept}
use Rattle.assignment.specs.inner.Search.{IsReachedFrom, distance_at, settled_at}
use Rattle.assignment.proofs.Tracing.{cost_read, settled_of, sums_read}
use Rattle.assignment.proofs.search.Search.index_of.Goals as goal

pub overflow_add-order : goal.overflow_add-order
overflow_add-order c =
    let cell = cost_read c.args.state.now c.args.self.now c.args.end c.indexes.index c.index-wagon.result.now _ c.index-2.result.now _ c.len-groups.result _ c.requires.search c.requires.end c.requires.wagon (omega (arith, c.requires.end, c.indexes-test.true)) c.index-wagon.ensures c.index-group.ensures c.index.ensures c.index-2.ensures (omega (arith, c.len-groups.ensures, c.args.state.now.groups.first.ok.0)) c.index-in-indexes.ensures in
    omega (arith, cell, c.args.state.now.costs.ok.0, c.args.state.now.costs.ok.1)

pub index-requires-in-indexes-2 : goal.index-requires-in-indexes-2
index-requires-in-indexes-2 c =
    let cell = cost_read c.args.state.now c.args.self.now c.args.end c.indexes.index c.index-wagon.result.now _ c.index-2.result.now _ c.len-groups.result _ c.requires.search c.requires.end c.requires.wagon (omega (arith, c.requires.end, c.indexes-test.true)) c.index-wagon.ensures c.index-group.ensures c.index.ensures c.index-2.ensures (omega (arith, c.len-groups.ensures, c.args.state.now.groups.first.ok.0)) c.index-in-indexes.ensures in
    omega (arith, cell, c.args.state.now.costs.ok.0)

pub index-requires-in-indexes-3 : goal.index-requires-in-indexes-3
index-requires-in-indexes-3 c =
    let within = (settled_of c.args.state.now c.args.self.now c.indexes.index _ c.requires.search (omega (arith, c.requires.end, c.indexes-test.true)) c.index-in-indexes.ensures).within in
    let room = c.requires.search.room.distances in
    omega (arith, within, room, c.args.self.now.order_distance.ok.0)

pub index-requires-in-indexes-4 : goal.index-requires-in-indexes-4
index-requires-in-indexes-4 c =
    let within = (settled_of c.args.state.now c.args.self.now c.indexes.index _ c.requires.search (omega (arith, c.requires.end, c.indexes-test.true)) c.index-in-indexes.ensures).within in
    let orders = c.requires.search.orders in
    omega (arith, within, orders, c.args.state.now.v.ok.0)

pub returns-then-far-from-clause-from : goal.returns-then-far-from-clause-from
returns-then-far-from-clause-from c =
    (sums_read c.args.state.now c.args.self.now c.args.end c.indexes.index c.index-wagon.result.now _ c.index-2.result.now _ c.len-groups.result _ _ _ _ _ c.requires.search c.requires.end c.requires.wagon (omega (arith, c.requires.end, c.indexes-test.true)) c.index-wagon.ensures c.index-group.ensures c.index.ensures c.index-2.ensures (omega (arith, c.len-groups.ensures, c.args.state.now.groups.first.ok.0)) c.index-in-indexes.ensures c.index-in-indexes-2.ensures c.index-in-indexes-3.ensures c.index-in-indexes-4.ensures c.index-3.ensures).reached
    (omega (arith, c.if-far-from.true, c.from-far.ensures, c.from-price.ensures, c.from-cost.ensures, c.from.ensures, c.from-in-indexes.ensures))

pub indexes-preserved : goal.indexes-preserved
indexes-preserved c = λ x lx from. elim (cases_eq x c.indexes.index) [
  | inl same ↦
      let f = c.args.self.now in
      let here = subst (IsReachedFrom (kept c.args.state.now) f (distance_at f (settled_at f c.args.end)) (get_or f.via.items c.args.end 0)) same from in
      let agree = (sums_read c.args.state.now c.args.self.now c.args.end c.indexes.index c.index-wagon.result.now _ c.index-2.result.now _ c.len-groups.result _ _ _ _ _ c.requires.search c.requires.end c.requires.wagon (omega (arith, c.requires.end, c.indexes-test.true)) c.index-wagon.ensures c.index-group.ensures c.index.ensures c.index-2.ensures (omega (arith, c.len-groups.ensures, c.args.state.now.groups.first.ok.0)) c.index-in-indexes.ensures c.index-in-indexes-2.ensures c.index-in-indexes-3.ensures c.index-in-indexes-4.ensures c.index-3.ensures).agree here in
      c.if-far-from.false (omega (arith, agree, c.from-far.ensures, c.from-price.ensures, c.from-cost.ensures, c.from.ensures, c.from-in-indexes.ensures))
  | inr apart ↦ c.indexes.invariant x (omega (arith, lx, apart)) from
]
