use Rattle.std.proofs.Common.{◌≡◌, ◌+◌, ◌<◌, ℕ, Some, length, get_or, sym, ◌∙◌, ap, arith, subst}
use Rattle.std.specs.Vec.{with_items}
use Rattle.std.proofs.lemmas.List.{with_items_is}
use Rattle.cost_table.specs.Table.{order_count}
use Rattle.assignment.specs.declared.state.State.{State}
use Rattle.assignment.specs.inner.Path.{given_up, one_if}
use Rattle.assignment.specs.inner.Search.{IsShortestPath}
use Rattle.assignment.specs.inner.State.{AreServed, IsHead, Kept, idle_after, kept, orders_of}
use Rattle.assignment.proofs.GroupLimits.{group_limit}
use Rattle.assignment.proofs.Raised.{has_raised}
use Rattle.assignment.proofs.Served.{served_more}
use Rattle.assignment.proofs.UnitTaken.{unit_taken}
use Rattle.assignment.proofs.planner.serve_unit.Goals as goal

pub raise-requires-2-clause-limit : goal.raise-requires-2-clause-limit
raise-requires-2-clause-limit c = λ g l.
    let state = c.run.new.state in
    let is = c.run.ensures.state in
    let prices : c.deref_mut-2.result.now ≡ state.u.items = c.deref_mut-2.ensures.value ∙ ap (λ (x : State). x.u.items) c.walk_back.ensures.same in
    let len = ap length prices in
    let count = is.group_prices in
    let limit = group_limit state g c.args.j is (omega (arith, l, len, count)) in
    let price = limit.price in
    let read = ap (λ x. get_or x g 0) prices in
    let path = c.run.ensures.path in
    let m = path.search.end.limit path.some in
    omega (arith, price, read, m)

pub returns-clause-taken : goal.returns-clause-taken
returns-clause-taken c =
    let before = c.args.state.now in
    let state = c.run.new.state in
    let walked = c.walk_back.new.state in
    let f = c.run.new.self in
    let s = kept state in
    let run = c.run.ensures in
    let is = run.state in
    let k : kept state ≡ kept before = ap kept run.same in
    let path : IsShortestPath s f = subst (λ (x : Kept). IsShortestPath x f) (sym k) run.path in
    let head : IsHead state f.end.wagon = subst (λ (x : State). IsHead x f.end.wagon) (sym run.same) run.head in
    let same = c.walk_back.ensures.same in
    let u = c.raise-2.new.prices in
    let v = c.raise.new.prices in
    let n = c.count_unit.new.served in
    let h = orders_of walked.order_of.items in
    let up = has_raised state walked f u v _ _ _ _ is path same c.deref_mut-2.ensures.value c.deref_mut.ensures.value c.deref-2.ensures.value c.deref.ensures.value
    c.raise-2.auto.prices c.raise.auto.prices c.deref_mut-2.ensures.len c.deref_mut.ensures.len c.raise-2.ensures c.raise.ensures in
    let ln : c.deref_mut-3.result.now ≡ state.served.items = c.deref_mut-3.ensures.value ∙ ap (λ (x : State). x.served.items) same in
    let en : (with_items walked.served n).items ≡ n = with_items_is walked.served n (c.count_unit.auto.served ∙ c.deref_mut-3.ensures.len) in
    let counts = is.served.count in
    let step : (k : ℕ) → k < order_count s.table → get_or n k 0 + one_if k (given_up f) ≡ get_or state.served.items k 0 + one_if k (Some (get_or f.orders.items 0 0)) = λ k l. rw ln at (c.count_unit.ensures k (let b = ap length ln in omega (arith, l, b, counts))) in
    let served_now : AreServed (order_count s.table) h n = served_more (order_count s.table) s.order_of h state.served.items n _ _ is.served (c.count_unit.auto.served ∙ ap length ln ∙ counts) c.walk_back.ensures.count step in
    let idle = c.take.ensures.items ∙ ap (λ (x : State). idle_after x.groups x.idle.items f.end.wagon) same in
    unit_taken before state c.take.new.self f c.args.j (with_items walked.u u) (with_items walked.v v) walked.order_of (with_items walked.served n) c.take.new.self.idle run.same run.first (record {
      is_state = is;
      path = path;
      head = head;
      handed_on = c.walk_back.ensures.handed_on;
      given = c.walk_back.ensures.given;
      count = c.walk_back.ensures.count;
      wagons = c.walk_back.ensures.wagons;
      raised = rw (up.wagon_prices, up.order_prices) up.prices;
      prices = rw up.wagon_prices up.group_prices;
      are_served = rw en served_now;
      idle_is = idle;
    }) (c.take.ensures.same ∙ ap (λ (x : State). record x { u = with_items walked.u u; v = with_items walked.v v; served = with_items walked.served n; idle = c.take.new.self.idle }) same)
