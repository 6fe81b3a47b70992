use Rattle.std.proofs.Common.{◌≡◌, ◌<◌, ◌∙◌, Some, ap, subst, sym, arith}
use Rattle.std.specs.Prelude.{slice_get}
use Rattle.std.proofs.lemmas.Grind.{get_or_default_zero}
use Rattle.std.proofs.lemmas.Option.{same_Some}
use Rattle.move_messages.specs.Order.{Order}
use Rattle.wagons_and_orders.specs.declared.free_wagon.FreeWagon.{FreeWagon}
use Rattle.wagons_and_orders.specs.Suits.{Suits}
use Rattle.wagons_and_orders.specs.Wanted.{WantedOrder}
use Rattle.cost_table.specs.Problem.{ProblemValue}
use Rattle.cost_table.specs.Table.{order_count}
use Rattle.plan_reasons.specs.Laws.{cells_of_order}
use Rattle.plan_reasons.specs.Reasons.{HasWay, IsCheaper, IsCount, IsInTime, IsOfClass}
use Rattle.plan_reasons.specs.inner.Tallied.{AreSeen, cheaper_cells}
use Rattle.plan_reasons.proofs.Arrivals.{order_count-table, standing}
use Rattle.plan_reasons.proofs.Tested.{cheaper_counted, class_counted, in_time_counted, load_counted, seen_of}
use Rattle.plan_reasons.proofs.tallies.Tallies.counts.Goals as goal

pub on_a_way-requires-clause-load : goal.on_a_way-requires-clause-load
on_a_way-requires-clause-load c =
    let net = c.args.planned.now.network in
    let problem = c.args.planned.now.problem in
    let order = c.order-order.result.now in
    let seen : AreSeen net problem.wagons order c.deref-3.result.now c.deref-2.result.now = seen_of net problem.wagons order c.args.self.now.tested.classes.items c.deref.result.now c.args.self.now.tested.wagons.items c.deref-2.result.now c.in_ok-listed.listed.items c.deref-3.result.now c.deref.ensures.value c.deref-2.ensures.value c.deref-3.ensures.value c.in_ok-listed.ensures c.requires.tallies.tested in
    subst (IsCount (λ (w : FreeWagon). Suits w order) problem.wagons) (sym c.count_suited-counted.ensures.load) (load_counted net problem.wagons order c.deref-3.result.now c.deref-2.result.now seen c.load.result c.load.ensures.value)

pub on_a_way-requires-clause-in_time : goal.on_a_way-requires-clause-in_time
on_a_way-requires-clause-in_time c =
    let net = c.args.planned.now.network in
    let problem = c.args.planned.now.problem in
    let t = c.args.planned.now.priced.table in
    let wanted = c.index-orders-j.result in
    let order : slice_get problem.orders c.args.j ≡ Some wanted = standing c.orders.result.now problem.orders c.args.j wanted (c.orders.ensures.orders ∙ ap (λ (p : ProblemValue). p.orders) c.problem.ensures.value) c.requires.order c.index-orders-j.is in
    let less : c.args.j < order_count t = omega (arith, c.requires.order, order_count-table net problem t c.problem.ensures.table) in
    let number : c.index-in_time.result.now ≡ cells_of_order t c.args.j = c.index-in_time.ensures ∙ get_or_default_zero _ c.args.j _ (omega (arith, less, c.requires.tallies.in_time.0)) ∙ c.requires.tallies.in_time.1 c.args.j less in
    subst (λ (o : Order). IsCount (λ (w : FreeWagon). IsInTime net problem.at w o) problem.wagons c.index-in_time.result.now) (sym c.order-order.ensures) (subst (IsCount (λ (w : FreeWagon). IsInTime net problem.at w wanted.order) problem.wagons) (sym number) (in_time_counted net problem t c.problem.ensures.table c.args.j wanted order))

pub returns : goal.returns
returns c = λ wanted at.
    let net = c.args.planned.now.network in
    let problem = c.args.planned.now.problem in
    let t = c.args.planned.now.priced.table in
    let table = c.problem.ensures.table in
    let tallies = c.requires.tallies in
    let handed = c.order-order.result.now in
    let read = standing c.orders.result.now problem.orders c.args.j c.index-orders-j.result (c.orders.ensures.orders ∙ ap (λ (p : ProblemValue). p.orders) c.problem.ensures.value) c.requires.order c.index-orders-j.is in
    let order : handed ≡ wanted.order = c.order-order.ensures ∙ ap (λ (o : WantedOrder). o.order) (same_Some c.index-orders-j.result wanted (sym read ∙ at)) in
    let less : c.args.j < order_count t = omega (arith, c.requires.order, order_count-table net problem t table) in
    let seen : AreSeen net problem.wagons handed c.deref-3.result.now c.deref-2.result.now = seen_of net problem.wagons handed c.args.self.now.tested.classes.items c.deref.result.now c.args.self.now.tested.wagons.items c.deref-2.result.now c.in_ok-listed.listed.items c.deref-3.result.now c.deref.ensures.value c.deref-2.ensures.value c.deref-3.ensures.value c.in_ok-listed.ensures tallies.tested in
    let class = subst (IsCount (λ (w : FreeWagon). IsOfClass w handed) problem.wagons) (sym c.count_suited-counted.ensures.class) (class_counted net problem.wagons handed c.deref-3.result.now c.deref-2.result.now seen) in
    let load = subst (IsCount (λ (w : FreeWagon). Suits w handed) problem.wagons) (sym c.count_suited-counted.ensures.load) (load_counted net problem.wagons handed c.deref-3.result.now c.deref-2.result.now seen c.load.result c.load.ensures.value) in
    let in_time : c.index-in_time.result.now ≡ cells_of_order t c.args.j = c.index-in_time.ensures ∙ get_or_default_zero _ c.args.j _ (omega (arith, less, tallies.in_time.0)) ∙ tallies.in_time.1 c.args.j less in
    let cheaper : c.index.result.now ≡ cheaper_cells t c.args.j = c.index.ensures ∙ get_or_default_zero _ c.args.j _ (omega (arith, less, tallies.cheaper.0)) ∙ tallies.cheaper.1 c.args.j less in
    record {
      class = subst (λ (o : Order). IsCount (λ (w : FreeWagon). IsOfClass w o) problem.wagons c.count_suited-counted.result.class) order class;
      load = subst (λ (o : Order). IsCount (λ (w : FreeWagon). Suits w o) problem.wagons c.count_suited-counted.result.load) order load;
      way = subst (λ (o : Order). IsCount (λ (w : FreeWagon). HasWay net w o) problem.wagons c.on_a_way.result) order c.on_a_way.ensures;
      in_time = subst (IsCount (λ (w : FreeWagon). IsInTime net problem.at w wanted.order) problem.wagons) (sym in_time) (in_time_counted net problem t table c.args.j wanted at);
      cheaper = subst (IsCount (λ (w : FreeWagon). IsCheaper net problem.at w wanted.order) problem.wagons) (sym cheaper) (cheaper_counted net problem t table c.args.j wanted at);
    }
