use Rattle.std.proofs.Common.{◌≡◌, map, take}
use Rattle.line_network.specs.inner.Steps.{step_along}
use Rattle.line_network.proofs.lines_by_origin.steps_of.Given as goal

abbrev pub invariant-loop-line : goal.invariant-loop-line
invariant-loop-line l = l.steps.items ≡ map step_along (take l.line-index l.lines)
