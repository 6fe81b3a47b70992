use Rattle.std.proofs.Common.{◌≡◌, ◌+◌, ◌-◌, ℕ, length, get_or, sym, ◌∙◌, ap, arith, subst, length-append}
use Rattle.cost_table.specs.TableRows.{row_at}
use Rattle.assignment.specs.inner.Costs.{AreColumnsOf, cost_within}
use Rattle.assignment.specs.inner.Groups.{group_table}
use Rattle.assignment.proofs.FirstPrices.{columns_whole}
use Rattle.assignment.proofs.Grouping.{group_row}
use Rattle.assignment.proofs.RowCells.{behind_cell, cell_placed, cell_room, front_cell}
use Rattle.assignment.proofs.costs.place_row.Goals as goal

pub place_cell-requires-clause-place : goal.place_cell-requires-clause-place
place_cell-requires-clause-place c =
    let row = c.row-row in
    let x = c.loop-cell.cell-index in
    let at = front_cell c.args.cells.now c.args.first.now c.args.g x row.result.first.now row.result.rest.now c.requires.group row.ensures.row row.ensures.cells c.loop-cell-test.true in
    (cell_room (group_table c.args.cells.now c.args.first.now) c.args.g (length c.args.first.now) x (get_or row.result.first.now x (0, 0)) c.loop-cell.costs c.loop-cell.v c.loop-cell.nearest at c.loop-cell.invariant).0

pub place_cell-requires-clause-order : goal.place_cell-requires-clause-order
place_cell-requires-clause-order c =
    let row = c.row-row in
    let x = c.loop-cell.cell-index in
    let at = front_cell c.args.cells.now c.args.first.now c.args.g x row.result.first.now row.result.rest.now c.requires.group row.ensures.row row.ensures.cells c.loop-cell-test.true in
    (cell_room (group_table c.args.cells.now c.args.first.now) c.args.g (length c.args.first.now) x (get_or row.result.first.now x (0, 0)) c.loop-cell.costs c.loop-cell.v c.loop-cell.nearest at c.loop-cell.invariant).1

pub loop-cell-preserved : goal.loop-cell-preserved
loop-cell-preserved c =
    let row = c.row-row in
    let x = c.loop-cell.cell-index in
    let at = front_cell c.args.cells.now c.args.first.now c.args.g x row.result.first.now row.result.rest.now c.requires.group row.ensures.row row.ensures.cells c.loop-cell-test.true in
    cell_placed (group_table c.args.cells.now c.args.first.now) c.args.g (length c.args.first.now) x (get_or row.result.first.now x (0, 0)) c.loop-cell.costs c.place_cell.new.costs c.loop-cell.v c.place_cell.new.v c.loop-cell.nearest c.place_cell.new.nearest at c.loop-cell.invariant c.place_cell.ensures.costs c.place_cell.ensures.prices c.place_cell.auto.nearest

pub loop-next_cell-init : goal.loop-next_cell-init
loop-next_cell-init c =
    let t = group_table c.args.cells.now c.args.first.now in
    let row = c.row-row in
    let same = ap length (row.ensures.row ∙ sym (group_row c.args.cells.now c.args.first.now c.args.g c.requires.group)) in
    let count = length-append row.result.first.now row.result.rest.now in
    let end : c.loop-cell.cell-index ≡ length (row_at t c.args.g) - length row.result.rest.now + 0 = omega (arith, same, count, c.loop-cell-test.false, c.loop-cell.auto.cell-index-end) in
    subst (λ (m : ℕ). AreColumnsOf t (cost_within t c.args.g m) c.loop-cell.costs c.loop-cell.v c.loop-cell.nearest) end c.loop-cell.invariant

pub place_cell-requires-in-loop-next_cell-clause-place : goal.place_cell-requires-in-loop-next_cell-clause-place
place_cell-requires-in-loop-next_cell-clause-place c =
    let t = group_table c.args.cells.now c.args.first.now in
    let row = c.row-row in
    let x = c.loop-next_cell.next_cell-index in
    let m = length (row_at t c.args.g) - length row.result.rest.now + x in
    let same = ap length (row.ensures.row ∙ sym (group_row c.args.cells.now c.args.first.now c.args.g c.requires.group)) in
    let count = length-append row.result.first.now row.result.rest.now in
    let at = behind_cell c.args.cells.now c.args.first.now c.args.g m x row.result.first.now row.result.rest.now c.requires.group row.ensures.row row.ensures.cells c.loop-next_cell-test.true (omega (arith, same, count)) in
    (cell_room t c.args.g (length c.args.first.now) m (get_or row.result.rest.now x (0, 0)) c.loop-next_cell.costs c.loop-next_cell.v c.loop-next_cell.nearest at c.loop-next_cell.invariant).0

pub place_cell-requires-in-loop-next_cell-clause-order : goal.place_cell-requires-in-loop-next_cell-clause-order
place_cell-requires-in-loop-next_cell-clause-order c =
    let t = group_table c.args.cells.now c.args.first.now in
    let row = c.row-row in
    let x = c.loop-next_cell.next_cell-index in
    let m = length (row_at t c.args.g) - length row.result.rest.now + x in
    let same = ap length (row.ensures.row ∙ sym (group_row c.args.cells.now c.args.first.now c.args.g c.requires.group)) in
    let count = length-append row.result.first.now row.result.rest.now in
    let at = behind_cell c.args.cells.now c.args.first.now c.args.g m x row.result.first.now row.result.rest.now c.requires.group row.ensures.row row.ensures.cells c.loop-next_cell-test.true (omega (arith, same, count)) in
    (cell_room t c.args.g (length c.args.first.now) m (get_or row.result.rest.now x (0, 0)) c.loop-next_cell.costs c.loop-next_cell.v c.loop-next_cell.nearest at c.loop-next_cell.invariant).1

pub loop-next_cell-preserved : goal.loop-next_cell-preserved
loop-next_cell-preserved c =
    let t = group_table c.args.cells.now c.args.first.now in
    let row = c.row-row in
    let x = c.loop-next_cell.next_cell-index in
    let before = length (row_at t c.args.g) - length row.result.rest.now in
    let same = ap length (row.ensures.row ∙ sym (group_row c.args.cells.now c.args.first.now c.args.g c.requires.group)) in
    let count = length-append row.result.first.now row.result.rest.now in
    let at = behind_cell c.args.cells.now c.args.first.now c.args.g (before + x) x row.result.first.now row.result.rest.now c.requires.group row.ensures.row row.ensures.cells c.loop-next_cell-test.true (omega (arith, same, count)) in
    let call = c.place_cell-in-loop-next_cell in
    let placed = cell_placed t c.args.g (length c.args.first.now) (before + x) (get_or row.result.rest.now x (0, 0)) c.loop-next_cell.costs call.new.costs c.loop-next_cell.v call.new.v c.loop-next_cell.nearest call.new.nearest at c.loop-next_cell.invariant call.ensures.costs call.ensures.prices call.auto.nearest in
    let next : before + x + 1 ≡ before + (x + 1) = omega arith in
    subst (λ (m : ℕ). AreColumnsOf t (cost_within t c.args.g m) call.new.costs call.new.v call.new.nearest) next placed

pub returns : goal.returns
returns c =
    let t = group_table c.args.cells.now c.args.first.now in
    let rest = c.row-row.result.rest.now in
    let m = length (row_at t c.args.g) - length rest + c.loop-next_cell.next_cell-index in
    columns_whole t c.args.g m c.loop-next_cell.costs c.loop-next_cell.v c.loop-next_cell.nearest (omega (arith, c.loop-next_cell-test.false)) c.loop-next_cell.invariant
