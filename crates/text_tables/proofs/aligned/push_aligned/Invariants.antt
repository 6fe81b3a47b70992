use Rattle.std.proofs.Common.{◌≡◌, ◌++◌, take, string_bytes}
use Rattle.std.specs.List.{flat_map}
use Rattle.text_tables.specs.Aligned.{row_line}
use Rattle.text_tables.proofs.aligned.push_aligned.Given as goal

abbrev pub invariant-loop-row : goal.invariant-loop-row
invariant-loop-row l = string_bytes l.text ≡ string_bytes l.initial.text ++ flat_map (row_line l.sides l.rows) (take l.row-index l.rows)
