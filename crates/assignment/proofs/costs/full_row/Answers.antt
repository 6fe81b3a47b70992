use Rattle.std.proofs.Common.{◌≡◌, length, sym, ◌∙◌, arith}
use Rattle.cost_table.specs.Table.{order_count}
use Rattle.cost_table.proofs.PartLemmas.{first_is_row, rest_is_row}
use Rattle.assignment.proofs.Grouping.{group_row}
use Rattle.assignment.proofs.TwoRows.{full_first, full_rest}
use Rattle.assignment.proofs.costs.full_row.Goals as goal

pub returns-then-row-orders-clause-row : goal.returns-then-row-orders-clause-row
returns-then-row-orders-clause-row c =
    let row = c.row-row.result in
    let long : length row.first.now ≡ order_count c.args.cells.now = omega (arith, c.if-row-orders.true, c.orders-orders.ensures.count) in
    full_first (order_count c.args.cells.now) row.first.now row.rest.now c.row-row.ensures.cells long ∙ c.row-row.ensures.row ∙ sym (group_row c.args.cells.now c.args.first.now c.args.g c.requires.group)

pub returns-then-row-orders-clause-cells : goal.returns-then-row-orders-clause-cells
returns-then-row-orders-clause-cells c = first_is_row (order_count c.args.cells.now) 0 c.row-row.result.first.now c.row-row.result.rest.now c.row-row.ensures.cells

pub returns-then-row-orders-2-clause-row : goal.returns-then-row-orders-2-clause-row
returns-then-row-orders-2-clause-row c =
    let row = c.row-row.result in
    let long : length row.rest.now ≡ order_count c.args.cells.now = omega (arith, c.if-row-orders-2.true, c.orders-orders.ensures.count) in
    full_rest (order_count c.args.cells.now) row.first.now row.rest.now c.row-row.ensures.cells long ∙ c.row-row.ensures.row ∙ sym (group_row c.args.cells.now c.args.first.now c.args.g c.requires.group)

pub returns-then-row-orders-2-clause-cells : goal.returns-then-row-orders-2-clause-cells
returns-then-row-orders-2-clause-cells c = rest_is_row (order_count c.args.cells.now) 0 c.row-row.result.first.now c.row-row.result.rest.now c.row-row.ensures.cells
