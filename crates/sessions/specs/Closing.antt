-- What a book says of the receipts of its seats.
use Rattle.std.specs.Prelude.{◌≡◌, ◌≢◌, ℕ, List, All, Some, slice_get}
use Rattle.move_messages.specs.declared.event.Event.{Event}
use Rattle.commit_book.specs.Books.{entry_at}
use Rattle.sessions.specs.Seat.{SeatValue}
use Rattle.sessions.specs.declared.receipt.Receipt.{Receipt}

-- the event of a receipt is the entry of its number
abbrev pub HasEntry : List Event → Receipt → Type 0
HasEntry history receipt = entry_at history receipt.entry ≡ Some receipt.event

-- so is that of each receipt of a seat
abbrev pub HasEntries : List Event → SeatValue → Type 0
HasEntries history seat = All (HasEntry history) seat.receipts

-- a receipt of this entry, of the seat of this number, whose event is not that entry
pub record IsLost (history : List Event) (seats : List SeatValue) (number entry : ℕ) : Type 0 where
  pub index : ℕ
  pub seat : SeatValue
  pub is_seat : slice_get seats index ≡ Some seat
  pub its_number : seat.number ≡ number
  pub which : ℕ
  pub receipt : Receipt
  pub is_receipt : slice_get seat.receipts which ≡ Some receipt
  pub its_entry : receipt.entry ≡ entry
  pub differs : entry_at history entry ≢ Some receipt.event
