use Rattle.std.proofs.Common.{◌≡◌, ◌+◌, ◌<◌, ◌*◌, Some, length, get_or, set, sym, ◌∙◌, ap, refl, arith}
use Rattle.cost_table.specs.Table.{cost_at, order_count}
use Rattle.assignment.specs.inner.Groups.{group_table}
use Rattle.assignment.proofs.CostSteps.{place_within}
use Rattle.assignment.proofs.FirstPrices.{prices_two}
use Rattle.assignment.proofs.Grouping.{group_count}
use Rattle.assignment.proofs.TwoRows.{full_at, two_more}
use Rattle.assignment.proofs.Writes.{written_length}
use Rattle.assignment.proofs.costs.place_full_rows.Goals as goal

pub bounds-costs-index-in-orders : goal.bounds-costs-index-in-orders
bounds-costs-index-in-orders c =
    let first = c.args.first.now in
    let t = group_table c.args.cells.now first in
    let row = c.in-Some.rows.0.now in
    let one = ap length c.in-Some.ensures.row in
    let full = c.in-Some.ensures.full.first in
    let test = c.orders-test.true in
    let n = group_count c.args.cells.now first in
    let place = place_within (order_count t) (length first) c.orders.j (c.args.g + 1) (length c.orders.costs) (c.orders.invariant.costs.count ∙ ap (λ x. order_count t * x) n) (omega (arith, one, full, test)) c.in-Some.ensures.within in
    let index = c.orders.j * length first + c.args.g in
    let same = written_length c.orders.costs (set c.orders.costs index (get_or row c.orders.j (0, 0)).1) index (get_or row c.orders.j (0, 0)).1 refl in
    omega (arith, place, same)

pub orders-preserved : goal.orders-preserved
orders-preserved c =
    let first = c.args.first.now in
    let t = group_table c.args.cells.now first in
    let g = c.args.g in
    let j = c.orders.j in
    let row = c.in-Some.rows.0.now in
    let next_row = c.in-Some.rows.1.now in
    let rows = c.in-Some.ensures in
    let a = (get_or row j (0, 0)).1 in
    let b = (get_or next_row j (0, 0)).1 in
    let one = ap length rows.row in
    let full = rows.full.first in
    let test = c.orders-test.true in
    let l : j < order_count t = omega (arith, one, full, test) in
    let n = group_count c.args.cells.now first in
    let within = rows.within in
    let in_first : cost_at t g j ≡ Some a = full_at t g j row rows.row rows.cells rows.full.first l in
    let in_second : cost_at t (g + 1) j ≡ Some b = full_at t (g + 1) j next_row rows.next_row rows.next_cells rows.full.second l in
    record {
      costs = two_more t g j (length first) a b c.orders.costs _ (sym n) (omega (arith, within, n)) l in_first in_second c.orders.invariant.costs refl;
      prices = prices_two t g j a b c.orders.v c.lower.new.v l in_first in_second c.orders.invariant.prices (rw c.min.ensures at c.lower.ensures);
      hints = omega (arith, c.lower.auto.nearest, c.orders.invariant.hints);
    }
