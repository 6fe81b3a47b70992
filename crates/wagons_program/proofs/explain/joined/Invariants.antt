use Rattle.std.proofs.Common.{◌≡◌, map, take, string_bytes}
use Rattle.std.specs.List.{join_with_byte}
use Rattle.line_engine.specs.Lines.{line_feed}
use Rattle.wagons_program.proofs.explain.joined.Given as goal

-- the entries before
abbrev pub invariant-loop-index : goal.invariant-loop-index
invariant-loop-index l = string_bytes l.text ≡ join_with_byte line_feed (map (λ entry. entry.now) (take l.index l.entries))
