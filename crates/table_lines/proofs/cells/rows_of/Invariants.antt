use Rattle.std.proofs.Common.{◌≡◌, ◌≤◌, map, drop, length}
use Rattle.std.specs.Prelude.{vec_len, vec_capacity}
use Rattle.serde_json.specs.View.{items_view}
use Rattle.line_fields.specs.Values.{each}
use Rattle.line_fields.specs.inner.Loops.{with_front}
use Rattle.table_lines.specs.TableLine.{row_of}
use Rattle.table_lines.proofs.cells.rows_of.Given as goal

-- What is read so far and the rest are what all are read as; there is room for the rest.
abbrev pub invariant-loop-row : goal.invariant-loop-row
invariant-loop-row l = record {
  so_far : with_front (map (λ row. row.items) l.found.items) (each row_of (items_view (drop l.row-index l.rows))) ≡ each row_of (items_view l.rows);
  count : vec_len l.found ≡ l.row-index;
  room : length l.rows ≤ vec_capacity l.found;
}
