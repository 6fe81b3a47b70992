-- What the loop over the lines of a script keeps.
use denote.Text.{Utf8}
use denote.Shadow.{shadow}
use Rattle.wagons_scripts.proofs.play.Given as goal

-- the command so far is text
abbrev pub invariant-loop-line : goal.invariant-loop-line
invariant-loop-line g l =
    (goal.iterator-loop-line g).can_next l.line-iterator ×
    (goal.iterator-loop-line g).is_finite l.line-iterator ×
    shadow (Utf8 l.command)
