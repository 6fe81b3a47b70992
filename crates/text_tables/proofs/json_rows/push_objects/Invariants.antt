use Rattle.std.proofs.Common.{◌≡◌, ◌++◌, take, string_bytes}
use Rattle.std.specs.List.{flat_map}
use Rattle.text_tables.specs.JsonRows.{object_line}
use Rattle.text_tables.proofs.json_rows.push_objects.Given as goal

abbrev pub invariant-loop-row : goal.invariant-loop-row
invariant-loop-row l = string_bytes l.text ≡ string_bytes l.initial.text ++ flat_map (object_line l.sides l.titles) (take l.row-index l.rows)
