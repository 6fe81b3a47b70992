use Rattle.std.proofs.Common.{take}
use Rattle.command_line.proofs.LineLemmas.{IsWordSoFar}
use Rattle.command_line.proofs.words.ungrouped_command.Given as goal

-- the lists of arguments so far
abbrev pub invariant-loop-arguments : goal.invariant-loop-arguments
invariant-loop-arguments l = IsWordSoFar l.fn.help.name.now (take l.arguments-index l.fn.help.arguments.now) l.word
