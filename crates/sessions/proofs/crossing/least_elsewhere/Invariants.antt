use Rattle.sessions.specs.inner.Crossings.{IsLeast, IsMovedBut}
use Rattle.sessions.proofs.crossing.least_elsewhere.Given as goal

abbrev pub invariant-loop-file : goal.invariant-loop-file
invariant-loop-file g l = IsLeast (IsMovedBut l.seats l.index l.file l.wagons) l.least
