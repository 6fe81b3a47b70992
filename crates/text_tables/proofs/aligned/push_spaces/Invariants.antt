use Rattle.std.proofs.Common.{◌≡◌, ◌++◌, replicate, string_bytes}
use Rattle.text_tables.proofs.aligned.push_spaces.Given as goal

abbrev pub invariant-loop-space : goal.invariant-loop-space
invariant-loop-space l = string_bytes l.text ≡ string_bytes l.initial.text ++ replicate l._space 32
