use Rattle.std.proofs.Common.{◌≡◌, take}
use Rattle.std.specs.Prelude.{fold, max}
use Rattle.text_tables.specs.Aligned.{cell_at, cell_width}
use Rattle.text_tables.proofs.aligned.column_width.Given as goal

abbrev pub invariant-loop-row : goal.invariant-loop-row
invariant-loop-row l = l.width ≡ fold (λ width row. max width (cell_width (cell_at row l.k))) 0 (take l.row-index l.rows)
