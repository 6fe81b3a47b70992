use Rattle.problem_table.specs.inner.Moved.{AreSteady}
use Rattle.problem_table.proofs.moved.steady_count.Given as goal

-- The orders so far stand where they stood.
abbrev pub invariant-loop-k : goal.invariant-loop-k
invariant-loop-k l = AreSteady l.positions l.kept l.k
