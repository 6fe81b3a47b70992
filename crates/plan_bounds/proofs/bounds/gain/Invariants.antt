use Rattle.std.proofs.Common.{◌≡◌, drop}
use Rattle.std.specs.Prelude.{max}
use Rattle.plan_bounds.specs.Changes.{gain_of}
use Rattle.plan_bounds.proofs.bounds.gain.Given as goal

abbrev pub invariant-loop-cell : goal.invariant-loop-cell
invariant-loop-cell l = max l.gain (gain_of l.v (drop l.cell-index l.row)) ≡ gain_of l.v l.row
