-- When a history is its receipts and nothing else.
use Rattle.std.specs.Prelude.{◌≡◌, ◌≤◌, ◌==◌, ℕ, List, length, All, Some, count_by, slice_get}
use Rattle.std.specs.List.{sum_by}
use Rattle.move_messages.specs.declared.event.Event.{Event}
use Rattle.commit_book.specs.Books.{entry_at}
use Rattle.sessions.specs.Closing.{HasEntries, HasEntry}
use Rattle.sessions.specs.Seat.{SeatValue, count_of}
use Rattle.sessions.specs.declared.receipt.Receipt.{Receipt}

-- how many receipts have this number
abbrev pub times_of_entry : ℕ → List Receipt → ℕ
times_of_entry n receipts = count_by (λ (receipt : Receipt). receipt.entry == n) receipts

-- so of all seats
abbrev pub times_at_seats : ℕ → List SeatValue → ℕ
times_at_seats n seats = sum_by (λ (seat : SeatValue). times_of_entry n seat.receipts) seats

-- some receipt has this number and this event
pub record IsReceived (receipts : List Receipt) (n : ℕ) (event : Event) : Type 0 where
  pub index : ℕ
  pub receipt : Receipt
  pub is_receipt : slice_get receipts index ≡ Some receipt
  pub its_entry : receipt.entry ≡ n
  pub its_event : receipt.event ≡ event

-- so has one of some seat
pub record IsReceivedAt (seats : List SeatValue) (n : ℕ) (event : Event) : Type 0 where
  pub which : ℕ
  pub seat : SeatValue
  pub is_seat : slice_get seats which ≡ Some seat
  pub received : IsReceived seat.receipts n event

-- Two receipts of one number have one event.
abbrev pub ReceiptsAgree : Type 0
ReceiptsAgree = (history : List Event) (one other : Receipt) → HasEntry history one → HasEntry history other → one.entry ≡ other.entry → one.event ≡ other.event

-- What `close` says of a book and its seats: as many entries as receipts, and each receipt's event is the entry of its
-- number. Where no number stands twice, each entry is that of some seat's receipt of its number.
abbrev pub ReceiptsAreTheHistory : Type 0
ReceiptsAreTheHistory =
    (history : List Event) (seats : List SeatValue) → length history ≡ sum_by count_of seats → All (HasEntries history) seats → ((n : ℕ) → times_at_seats n seats ≤ 1)
    → (n : ℕ) (event : Event) → entry_at history n ≡ Some event → IsReceivedAt seats n event
