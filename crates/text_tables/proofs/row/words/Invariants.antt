use Rattle.std.proofs.Common.{◌≡◌, take, string_bytes}
use Rattle.std.specs.List.{join_with_byte}
use Rattle.text_tables.proofs.row.words.Given as goal

abbrev pub invariant-loop-k : goal.invariant-loop-k
invariant-loop-k g l = string_bytes l.text ≡ join_with_byte 32 (take l.k l.codes)
