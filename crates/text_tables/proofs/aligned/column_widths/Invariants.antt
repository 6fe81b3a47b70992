use Rattle.std.proofs.Common.{◌≡◌, map}
use Rattle.std.specs.List.{range_with_len}
use Rattle.text_tables.specs.Aligned.{column_width}
use Rattle.text_tables.proofs.aligned.column_widths.Given as goal

abbrev pub invariant-loop-k : goal.invariant-loop-k
invariant-loop-k l = l.widths.items ≡ map (column_width l.rows) (range_with_len 0 l.k)
