-- Why a shared book is not closed: the numbers of the faults, and what is handed back.
use Rattle.std.specs.Prelude.{◌≡◌, ◌≤◌, ◌<◌, ℕ, List, length, Vec, Result, Ok, Err}
use Rattle.std.specs.List.{sum_by}
use Rattle.std.specs.declared.alloc.Global.{Global}
use Rattle.commit_book.specs.Setting.{Setting}
use Rattle.sessions.specs.Closing.{IsLost}
use Rattle.sessions.specs.Seat.{SharedBookValue, SeatValue, count_of}
use Rattle.sessions.specs.declared.close_fault.CloseFault.{CloseFault}
use Rattle.sessions.specs.declared.close_fault.CloseFault.TheVariants.{SeatsMissing, ReceiptLost}

-- the number that stands for a fault in a reply
abbrev pub fault_number : {L : Type 0} → CloseFault L → ℕ
fault_number (SeatsMissing shared seats) = 95
fault_number (ReceiptLost number entry book seats) = 96

-- What is handed back. Too few seats: the shared book and they. A receipt that is lost: the seats, and a book of this setting of
-- which it is true, with as many entries as all seats have receipts.
abbrev pub IsHandedBack : {L : Type 0} → Setting → SharedBookValue → Vec SeatValue Global → CloseFault L → Type 0
IsHandedBack setting shared seats (SeatsMissing its_shared its_seats) = (its_shared ≡ shared) × (its_seats ≡ seats)
IsHandedBack setting shared seats (ReceiptLost number entry book its_seats) =
    (book.setting ≡ setting) × IsLost book.state.history seats.items number entry × (its_seats ≡ seats) × (length book.state.history ≡ sum_by count_of seats.items)

-- fewer seats come than the shared book was opened with exactly where that is the answer
abbrev pub IsMissing : {B L : Type 0} → Result B (CloseFault L) → SharedBookValue → List SeatValue → Type 0
IsMissing (Ok closed) shared seats = shared.seats ≤ length seats
IsMissing (Err (SeatsMissing its_shared its_seats)) shared seats = length seats < shared.seats
IsMissing (Err (ReceiptLost number entry book its_seats)) shared seats = shared.seats ≤ length seats
