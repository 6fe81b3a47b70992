use Rattle.std.proofs.Common.{length}
use Rattle.line_network.specs.inner.Lengths.{known}
use Rattle.line_network.specs.inner.Turns.{waits}
use Rattle.line_network.specs.inner.Search.{work_left}
use Rattle.line_network.proofs.Searching.{IsSearch}
use Rattle.line_network.proofs.search.search.Given as goal

abbrev pub invariant-loop-next : goal.invariant-loop-next
invariant-loop-next l = IsSearch l.lines.lines.items (length l.fn.labels) l.origin (known l.labels) (waits l.waiting)

abbrev pub decreases-loop-next : goal.decreases-loop-next
decreases-loop-next l = work_left (known l.labels) (waits l.waiting)
