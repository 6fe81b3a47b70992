use Rattle.std.proofs.Common.{map, take}
use Rattle.command_line.specs.inner.Tables.{AddsRules, rule_for}
use Rattle.command_line.proofs.arguments.with_arguments.Given as goal

-- the arguments so far
abbrev pub invariant-loop-it : goal.invariant-loop-it
invariant-loop-it l = AddsRules (map rule_for (take l.it-index l.arguments)) l.fn.word l.word
