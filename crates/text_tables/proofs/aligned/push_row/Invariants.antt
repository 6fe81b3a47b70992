use Rattle.std.proofs.Common.{◌≡◌, ◌++◌, string_bytes}
use Rattle.std.specs.List.{flat_map, range_with_len}
use Rattle.text_tables.specs.Aligned.{column_text}
use Rattle.text_tables.proofs.aligned.push_row.Given as goal

abbrev pub invariant-loop-k : goal.invariant-loop-k
invariant-loop-k l = string_bytes l.text ≡ string_bytes l.initial.text ++ flat_map (column_text l.sides l.rows l.row) (range_with_len 0 l.k)
