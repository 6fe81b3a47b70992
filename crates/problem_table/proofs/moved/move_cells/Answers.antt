use Rattle.std.proofs.Common.{◌∙◌, get_or, sym, arith}
use Rattle.std.proofs.lemmas.List.{get_or_default}
use Rattle.problem_table.proofs.MovedSteps.{cell_gone, cell_kept}
use Rattle.problem_table.proofs.moved.move_cells.Goals as goal
use Rattle.problem_table.proofs.moved.move_cells.Goals.{then-position-moved, else-position-moved}

pub loop-cell-preserved : goal.loop-cell-preserved
loop-cell-preserved c =
    let inv = c.loop-cell.invariant in
    let positions = c.args.moved.now.positions.items in
    let kept = c.args.moved.now.kept in
    let row = c.args.row.now in
    let k = c.loop-cell.cell-index in
    let cell = get_or row k (0, 0) in
    let within = c.loop-cell-test.true in
    let is_at = get_or_default row k (0, 0) cell within in
    let position = c.index-position.result.now in
    let is = get_or_default positions cell.0 0 position (c.requires k (0, 0) within) ∙ sym c.index-position.ensures in
    elim c.if-position-moved.branch [
      | then-position-moved w ↦ record {
        cells = rw w.entries-is (cell_kept positions kept row k cell within is_at c.reserve.new.self.items c.loop-cell.entries.items position _ inv.cells is w.if-position-moved.true w.push_reserved.ensures.items);
        room = rw w.entries-is (omega (arith, w.push_reserved.ensures.len, w.push_reserved.ensures.capacity, inv.room));
      }
      | else-position-moved w ↦ record {
        cells = rw w.entries-is (cell_gone positions kept row k cell within is_at c.reserve.new.self.items c.loop-cell.entries.items position inv.cells is w.if-position-moved.false);
        room = rw w.entries-is (omega (arith, inv.room));
      }
    ]
