use Rattle.std.proofs.Common.{◌<◌, ℕ}
use Rattle.sessions.specs.inner.Crossings.{IsMovedIn}
use Rattle.sessions.proofs.crossing.moving_file.Given as goal

abbrev pub invariant-loop-file : goal.invariant-loop-file
invariant-loop-file g l = (other : ℕ) → other < l.file → IsMovedIn l.seats l.index other l.wagon → ⊥
