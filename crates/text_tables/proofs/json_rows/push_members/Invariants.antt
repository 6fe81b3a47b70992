use Rattle.std.proofs.Common.{◌≡◌, ◌++◌, map, string_bytes}
use Rattle.std.specs.List.{join_with_byte, range_with_len}
use Rattle.text_tables.specs.JsonRows.{member_text}
use Rattle.text_tables.proofs.json_rows.push_members.Given as goal

abbrev pub invariant-loop-k : goal.invariant-loop-k
invariant-loop-k l = string_bytes l.text ≡ string_bytes l.initial.text ++ join_with_byte 44 (map (member_text l.sides l.titles l.row) (range_with_len 0 l.k))
