-- A receipt whose event is not the entry of its number, and seats that are missing.
use Rattle.std.specs.Prelude.{◌≡◌, ◌≢◌, ◌<◌, ℕ, List, Some, Vec, length, slice_get}
use Rattle.std.specs.declared.alloc.Global.{Global}
use Rattle.move_messages.specs.declared.event.Event.{Event}
use Rattle.commit_book.specs.Books.{entry_at}
use Rattle.sessions.specs.Seat.{SharedBookValue, SeatValue}
use Rattle.sessions.specs.declared.close_fault.CloseFault.{CloseFault}
use Rattle.sessions.specs.declared.close_fault.CloseFault.TheVariants.{SeatsMissing, ReceiptLost}
use Rattle.sessions.specs.declared.receipt.Receipt.{Receipt}

-- one of the receipts has this number, and another event than the entry
pub record IsOther (history : List Event) (receipts : List Receipt) (entry : ℕ) : Type 0 where
  pub which : ℕ
  pub receipt : Receipt
  pub is_receipt : slice_get receipts which ≡ Some receipt
  pub its_entry : receipt.entry ≡ entry
  pub differs : entry_at history entry ≢ Some receipt.event

-- the fault that says that fewer seats come than the shared book was opened with, which hands both back
abbrev pub IsTooFew : {L : Type 0} → SharedBookValue → Vec SeatValue Global → CloseFault L → Type 0
IsTooFew shared seats (SeatsMissing its_shared its_seats) = (its_shared ≡ shared) × (its_seats ≡ seats) × (length seats.items < shared.seats)
IsTooFew shared seats (ReceiptLost number entry book its_seats) = ⊥
