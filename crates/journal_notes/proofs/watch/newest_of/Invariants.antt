use Rattle.std.proofs.Common.{◌≡◌, take}
use Rattle.std.specs.Prelude.{nat_lt}
use Rattle.move_messages.specs.Order.{Order}
use Rattle.journal_notes.specs.OrderNotes.{is_past}
use Rattle.journal_notes.proofs.watch.newest_of.Given as goal

abbrev pub invariant-loop-row : goal.invariant-loop-row
invariant-loop-row l = (order : Order) → is_past (take l.row-index l.rows) order ≡ nat_lt order.latest l.newest
