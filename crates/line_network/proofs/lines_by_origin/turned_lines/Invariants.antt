use Rattle.std.proofs.Common.{◌≡◌, map, take}
use Rattle.line_network.specs.inner.Turned.{turned}
use Rattle.line_network.proofs.lines_by_origin.turned_lines.Given as goal

abbrev pub invariant-loop-line : goal.invariant-loop-line
invariant-loop-line l = l.turned.items ≡ map turned (take l.line-index l.lines)
