use Rattle.std.proofs.Common.{◌≡◌, ◌<◌, Some, arith, rules}
use Rattle.std.specs.Prelude.{slice_index}
use Rattle.cost_table.specs.Table.{wagon_count}
use Rattle.cost_table.specs.RowParts.{cells_in}
use Rattle.price_checker.specs.Faults.{gap_of_wagon, price_gap}
use Rattle.price_checker.proofs.RowWalk.{gap_of_wagon-walked, orders_of_row}
use Rattle.price_checker.proofs.FirstBelow.{first_below_some, first_below_more}
use Rattle.price_checker.proofs.checker.check_gaps.Goals as goal

pub check_row-requires : goal.check_row-requires
check_row-requires c = orders_of_row _ _ _ c.row.ensures.cells c.requires.orders

pub returns-in_err-check_row : goal.returns-in_err-check_row
returns-in_err-check_row c =
    let t = c.args.cells.now in
    let u = c.args.u.now in
    let v = c.args.v.now in
    let i = c.loop-i.i in
    let gap = gap_of_wagon-walked t i (slice_index u i) (cells_in c.row.result) v _ c.row.ensures.cells c.row.ensures.row c.in_err-check_row.ensures in
    let below : i < wagon_count t = omega arith in
    let found : price_gap t u v ≡ Some c.in_err-check_row.field-0.0 = first_below_some (wagon_count t) i (λ i. gap_of_wagon t i (slice_index u i) v) c.in_err-check_row.field-0.0 below c.loop-i.invariant gap in
    search (rules, found)

pub loop-i-preserved : goal.loop-i-preserved
loop-i-preserved c =
    first_below_more c.loop-i.i (λ i. gap_of_wagon c.args.cells.now i (slice_index c.args.u.now i) c.args.v.now) c.loop-i.invariant
    (gap_of_wagon-walked c.args.cells.now c.loop-i.i (slice_index c.args.u.now c.loop-i.i) (cells_in c.row.result) c.args.v.now _ c.row.ensures.cells c.row.ensures.row c.in_ok-check_row.ensures)
