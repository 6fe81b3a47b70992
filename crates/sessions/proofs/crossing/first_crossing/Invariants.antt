use Rattle.std.proofs.Common.{◌<◌}
use Rattle.sessions.specs.declared.crossing.Crossing.{Crossing}
use Rattle.sessions.specs.inner.Crossings.{IsHeld}
use Rattle.sessions.proofs.crossing.first_crossing.Given as goal

abbrev pub invariant-loop-index : goal.invariant-loop-index
invariant-loop-index g l = (other : Crossing) → IsHeld l.seats l.refused other → l.index < other.refused_in
