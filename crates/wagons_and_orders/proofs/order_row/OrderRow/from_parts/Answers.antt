use Rattle.std.proofs.Common.{◌≡◌, ◌∙◌, ap, rules, arith, [], false}
use Rattle.wagons_and_orders.specs.OrderRow.{OrderRowValue}
use Rattle.wagons_and_orders.proofs.Rows.{row_of}
use Rattle.wagons_and_orders.proofs.order_row.OrderRow.from_parts.Goals as goal

pub invariant_of-row : goal.invariant_of-row
invariant_of-row c =
    let placed = c.row.view_is ∙ c.in_ok-row.ensures in
    let text : c.row.inside.text ≡ c.args.text = ap (λ (row : OrderRowValue). row.text) placed in
    let withdrawn : c.row.inside.withdrawn ≡ false = ap (λ (row : OrderRowValue). row.withdrawn) placed in
    let none_promised : c.row.inside.promised.items ≡ [] = ap (λ (row : OrderRowValue). row.promised) placed in
    let none_filled : c.row.inside.filled.items ≡ [] = ap (λ (row : OrderRowValue). row.filled) placed in
    let promised : c.extend_from_slice.new.self.items ≡ c.args.promised.now = search rules in
    let filled : c.extend_from_slice-2.new.self.items ≡ c.args.filled.now = search rules in (
      rw (text, withdrawn, promised, filled) (row_of c.args.text c.args.promised.now c.args.filled.now (search rules) (search rules)),
      omega (arith, c.row.invariant.1, c.in_ok-extend_from_slice.ensures.capacity),
      omega (arith, c.row.invariant.2, c.in_ok-extend_from_slice-2.ensures.capacity),
    )
