use Rattle.std.proofs.Common.{◌≡◌, ℕ, length, sym, ◌∙◌, ap, arith, rules, subst}
use Rattle.cost_table.specs.Table.{wagon_count, order_count}
use Rattle.assignment.specs.inner.State.{kept}
use Rattle.assignment.specs.inner.Sequence.{IsSequence}
use Rattle.assignment.proofs.planner.Planner.new.Goals as goal

pub invariant_of-result : goal.invariant_of-result
invariant_of-result c =
    let state = c.in_ok-state.ensures in
    let table = state.table in
    let t = c.in_ok-state.state.cells.now in
    let wagons = ap wagon_count (sym table) in
    let orders = ap order_count (sym table) in
    record {
      state = state.state;
      counted = state.counted;
      search = c.in_ok-search.ensures (kept c.in_ok-state.state) (omega (arith, c.len.ensures, c.in_ok-state.state.groups.first.ok.0)) (ap order_count table ∙ sym c.orders.ensures.count);
      sequence = subst (λ (n : ℕ). IsSequence n c.in_ok-sequence.sequence.items) (ap length c.deref.ensures.value ∙ state.state.keeps.priced.orders) c.in_ok-sequence.ensures;
      wagon_prices = (let e : length c.in_ok-from_elem.field-0.items ≡ c.wagons-2.result = search rules in e ∙ c.wagons-2.ensures.count ∙ wagons);
      order_prices = (let e : length c.in_ok-from_elem-2.field-0.items ≡ c.orders-3.result = search rules in e ∙ c.orders-3.ensures.count ∙ orders);
      room = (let e : length c.in_ok-pairs.pairs.items ≡ c.wagons-3.result = search rules in e ∙ c.wagons-3.ensures.count ∙ wagons);
    }
