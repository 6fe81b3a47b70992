-- Seats: what each caller at a shared book holds, and how its calls change it.
use Rattle.std.specs.Prelude.{◌≡◌, ◌≤◌, ℕ, zero, suc, List, [], ◌∷◌, ◌++◌, length, Result, Ok, Err}
use Rattle.move_messages.specs.declared.event.Event.{Event}
use Rattle.faults.specs.declared.faults.Refusal.{Refusal}
use Rattle.commit_book.specs.declared.reply.Reply.{Reply}
use Rattle.commit_book.specs.declared.reply.Reply.TheVariants.{Accepted, Repeated}
use Rattle.sessions.specs.declared.receipt.Receipt.{Receipt}

-- a seat: its number, and a receipt for each of its calls that was accepted
pub record SeatValue : Type 0 where
  pub number : ℕ
  pub receipts : List Receipt

-- a shared book, by how many seats it was opened with
pub record SharedBookValue : Type 0 where
  pub seats : ℕ

-- the most seats
abbrev pub max_seats : ℕ
max_seats = 64

-- one seat at least
abbrev pub IsSeatCount : ℕ → Type 0
IsSeatCount count = (1 ≤ count) × (count ≤ max_seats)

-- a seat's count: how many of its calls were accepted
abbrev pub count_of : SeatValue → ℕ
count_of seat = length seat.receipts

-- a seat with no receipt
abbrev pub new_seat : ℕ → SeatValue
new_seat number = record { number = number; receipts = [] }

-- so many of them, numbered from 1
abbrev pub new_seats : ℕ → List SeatValue
new_seats zero = []
new_seats (suc n) = new_seats n ++ new_seat (suc n) ∷ []

-- the receipts after an event that was answered so: an accepted one gives a receipt more
abbrev pub noted : List Receipt → Event → Reply → List Receipt
noted receipts event (Accepted n) = receipts ++ record { entry = n; event = event } ∷ []
noted receipts event (Repeated n) = receipts

-- What becomes of a seat by a call with an event. Accepted as entry n: it has one receipt more, of that number and that
-- event, and n is at least its count. Any other answer leaves it as it was.
abbrev pub IsAnswered : (old new : SeatValue) → Event → Result Reply Refusal → Type 0
IsAnswered old new event (Ok (Accepted n)) = (new ≡ record old { receipts = noted old.receipts event (Accepted n) }) × (count_of new ≤ n)
IsAnswered old new event (Ok (Repeated n)) = new ≡ old
IsAnswered old new event (Err refusal) = new ≡ old
