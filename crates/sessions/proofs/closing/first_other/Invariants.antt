use Rattle.std.proofs.Common.{take}
use Rattle.std.specs.Prelude.{All}
use Rattle.sessions.specs.Closing.{HasEntry}
use Rattle.sessions.proofs.closing.first_other.Given as goal

abbrev pub invariant-loop-receipt : goal.invariant-loop-receipt
invariant-loop-receipt l = All (HasEntry l.book.state.history) (take l.receipt-index l.receipts)
