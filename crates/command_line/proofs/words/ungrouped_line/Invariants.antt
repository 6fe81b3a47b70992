use Rattle.std.proofs.Common.{take}
use Rattle.command_line.proofs.LineLemmas.{HasFirst}
use Rattle.command_line.proofs.words.ungrouped_line.Given as goal

-- the words so far
abbrev pub invariant-loop-help : goal.invariant-loop-help
invariant-loop-help l = HasFirst (take l.help-index l.help-items) l.line
