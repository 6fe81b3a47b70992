use Rattle.std.proofs.Common.{◌≡◌, ◌++◌, [], replicate}
use Rattle.traces.proofs.cells.push_nothing.Given as goal

abbrev pub invariant-loop-cell : goal.invariant-loop-cell
invariant-loop-cell l = l.row ≡ l.initial.row ++ replicate l._cell []
