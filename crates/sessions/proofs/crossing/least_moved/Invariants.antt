use Rattle.std.proofs.Common.{take}
use Rattle.sessions.specs.inner.Crossings.{IsLeast, IsMovedAmong}
use Rattle.sessions.proofs.crossing.least_moved.Given as goal

abbrev pub invariant-loop-receipt : goal.invariant-loop-receipt
invariant-loop-receipt l = IsLeast (IsMovedAmong (take l.receipt-index l.receipts) l.wagons) l.least
