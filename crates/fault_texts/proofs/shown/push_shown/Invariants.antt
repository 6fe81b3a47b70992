use Rattle.std.proofs.Common.{◌≡◌, ◌++◌, length, string_bytes}
use Rattle.fault_texts.specs.Shown.{shown}
use Rattle.fault_texts.proofs.shown.push_shown.Given as goal

-- what is added so far and what is still to be shown
abbrev pub invariant-loop-rest : goal.invariant-loop-rest
invariant-loop-rest l = string_bytes l.text ++ shown l.rest ≡ string_bytes l.fn.text ++ shown l.fn.said

abbrev pub decreases-loop-rest : goal.decreases-loop-rest
decreases-loop-rest l = length l.rest
