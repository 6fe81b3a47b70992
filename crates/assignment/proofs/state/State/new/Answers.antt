use Rattle.std.proofs.Common.{◌≡◌, length, get_or, replicate, ◌∙◌, ap, rules, arith}
use Rattle.std.proofs.lemmas.List.{length-replicate}
use Rattle.assignment.specs.inner.State.{order_at, orders_of}
use Rattle.assignment.proofs.Counting.{counted_begun}
use Rattle.assignment.proofs.FirstPrices.{all_same, no_orders}
use Rattle.assignment.proofs.FirstState.{first_state}
use Rattle.assignment.proofs.state.State.new.Goals as goal

pub returns-clause-state : goal.returns-clause-state
returns-clause-state c =
    let groups = c.in_ok-groups.groups in
    let u : c.in_ok-from_elem.field-0.items ≡ replicate c.len-3.result 0 = search rules in
    let h : c.in_ok-from_elem-2.field-0.items ≡ replicate c.wagons.result 4294967295 = search rules in
    let n : c.in_ok-from_elem-3.field-0.items ≡ replicate c.orders.result 0 = search rules in
    let count : c.len-3.result ≡ length groups.first.items = omega (arith, c.len-3.ensures, groups.first.ok.0) in
    let wagons = c.wagons.ensures.count in
    first_state _ (record {
      table = c.wagons.ensures.table;
      are_groups = c.in_ok-groups.ensures;
      columns = c.in_ok-costs.ensures;
      u_is = u ∙ ap (λ x. replicate x 0) count;
      u_count = ap length u ∙ length-replicate c.len-3.result 0 ∙ count;
      bound_is = c.copy_from_slice.ensures.items ∙ c.deref.ensures.value;
      idle_is = c.copy_from_slice-2.ensures.items ∙ c.deref-2.ensures.value;
      orders_is = h ∙ ap (λ x. replicate x 4294967295) wagons;
      orders_count = ap length h ∙ length-replicate c.wagons.result 4294967295 ∙ wagons;
      served_is = λ k. ap (λ x. get_or x k 0) n ∙ all_same c.orders.result k 0;
      served_count = ap length n ∙ length-replicate c.orders.result 0 ∙ c.orders.ensures.count;
    })

pub returns-clause-counted : goal.returns-clause-counted
returns-clause-counted c =
    let h : c.in_ok-from_elem-2.field-0.items ≡ replicate c.wagons.result 4294967295 = search rules in
    counted_begun _ (λ i. ap (λ x. order_at (orders_of x) i) h ∙ no_orders c.wagons.result i)
