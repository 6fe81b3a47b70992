use Rattle.std.proofs.Common.{◌≡◌, ◌++◌, map, take, string_bytes}
use Rattle.std.specs.List.{join_with_byte}
use Rattle.plan_reasons.specs.Fields.{quoted}
use Rattle.plan_reasons.proofs.failed_line.push_joined.Given as goal

abbrev pub invariant-loop-k : goal.invariant-loop-k
invariant-loop-k l = string_bytes l.text ≡ string_bytes l.initial.text ++ join_with_byte 44 (map (quoted l.style) (take l.k l.classes))
