use Rattle.command_line.specs.Values.{all_lent}
use Rattle.command_line.specs.inner.Named.{AreNamedBelow}
use Rattle.command_line.proofs.explained.all_named.Given as goal

-- the entries of the numbers so far
abbrev pub invariant-loop-number : goal.invariant-loop-number
invariant-loop-number l = AreNamedBelow l.name l.number (all_lent l.entries.items)
