use Rattle.std.proofs.Common.{◌≡◌, drop}
use Rattle.price_checker.specs.inner.RowWalk.{gap_of_row}
use Rattle.price_checker.proofs.checker.check_cells.Given as goal

abbrev pub invariant-loop-cell : goal.invariant-loop-cell
invariant-loop-cell l = gap_of_row l.i (drop l.cell-index l.cells) l.u l.v ≡ gap_of_row l.i l.cells l.u l.v
