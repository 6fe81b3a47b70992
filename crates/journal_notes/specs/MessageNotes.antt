-- What is noted of a message, by what the office knew of its wagon before, and by the office after.
use Rattle.std.specs.Prelude.{ℕ, ◌+◌, ◌-◌, ◌/◌, ◌==◌, Bool, nat_lt, if◌then◌else◌, is_some, List, [], ◌∷◌, length, Option, Some, None}
use Rattle.fleet_rows.specs.Rows.{order_in, wagon_in}
use Rattle.move_messages.specs.declared.message.Message as movement
use Rattle.move_messages.specs.declared.message.MessageKind.{MessageKind}
use Rattle.move_messages.specs.declared.message.MessageKind.TheVariants.{Release, Departure, YardArrival, YardDeparture, Exception, Arrival, Delivery}
use Rattle.operating_db.specs.Commits.{lack_in}
use Rattle.operating_db.specs.Office.{Office}
use Rattle.operating_db.specs.Promises.{promise_of}
use Rattle.wagons_and_orders.specs.OrderRow.{OrderRowValue}
use Rattle.wagons_and_orders.specs.StatusTable.{place_of}
use Rattle.wagons_and_orders.specs.declared.wagon_row.WagonRow.{WagonRow}
use Rattle.journal_notes.specs.NoteLists.{noted}
use Rattle.journal_notes.specs.StatusNames.{status_name}
use Rattle.journal_notes.specs.declared.known_wagon.KnownWagon.{KnownWagon}
use Rattle.journal_notes.specs.declared.note.EndCause.{EndCause}
use Rattle.journal_notes.specs.declared.note.EndCause.TheVariants.{Held, Elsewhere}
use Rattle.journal_notes.specs.declared.note.Note.{Note}
use Rattle.journal_notes.specs.declared.note.Note.TheVariants.{Delivered, Filled, Ended, Short, Refused}
use Rattle.journal_notes.specs.declared.streaks.Streak.{Streak}

-- ---- what the office knew

-- how many wagons have filled an order, where there is one
abbrev pub filled_count : Option OrderRowValue → ℕ
filled_count None = 0
filled_count (Some row) = length row.filled

-- how many have filled the order of a promise
abbrev pub filled_of : List OrderRowValue → (promise : Option (List ℕ)) → ℕ
filled_of orders None = 0
filled_of orders (Some id) = filled_count (order_in orders id)

abbrev pub known_of : List OrderRowValue → Option WagonRow → Option KnownWagon
known_of orders None = None
known_of orders (Some row) =
    Some (record { promise = row.promise; filled = filled_of orders row.promise; status = status_name row.status; place = place_of row.status; last = row.last })

-- what an office knows of a wagon: its promise, how many wagons have filled the order of that, its status, its place, and the
-- moment of its last message
abbrev pub known_in : Office → (number : List ℕ) → Option KnownWagon
known_in office number = known_of office.orders (wagon_in office.wagons number)

-- ---- promises

-- the minutes from the latest moment to a later one, rounded up; 0 to an earlier one
abbrev pub minutes_late : (latest moment : ℕ) → ℕ
minutes_late latest moment = (moment - latest + 59) / 60

-- as many wagons have filled the order as it wants
abbrev pub is_filled : OrderRowValue → Bool
is_filled row = length row.filled == row.text.wagons

-- the note that a message has filled an order
abbrev pub filled_notes : (moment : ℕ) → Option OrderRowValue → List Note
filled_notes moment None = []
filled_notes moment (Some row) = noted (is_filled row) (Filled (record { order = row.text.id; late = minutes_late row.text.latest moment }))

-- why a promise ends by a message
abbrev pub cause_of : MessageKind → EndCause
cause_of (Exception hold) = Held
cause_of Release = Elsewhere
cause_of Departure = Elsewhere
cause_of YardArrival = Elsewhere
cause_of YardDeparture = Elsewhere
cause_of Arrival = Elsewhere
cause_of Delivery = Elsewhere

-- the notes of a promise to an order that is no longer one: the wagon is one more that filled the order, or the promise ended
abbrev pub end_notes : movement.Message → (order : List ℕ) → (filled : ℕ) → (now : Option OrderRowValue) → List Note
end_notes message order filled now =
    if nat_lt filled (filled_count now)
    then Delivered (record { wagon = message.wagon; order = order }) ∷ filled_notes message.moment now
    else Ended (record { wagon = message.wagon; order = order; cause = cause_of message.kind }) ∷ Short (record { order = order; missing = lack_in now }) ∷ []

-- the notes of the promise that the wagon of a message had
abbrev pub promise_notes : movement.Message → (promise : Option (List ℕ)) → (filled : ℕ) → (after : Office) → List Note
promise_notes message None filled after = []
promise_notes message (Some order) filled after =
    if is_some (promise_of (wagon_in after.wagons message.wagon)) then [] else end_notes message order filled (order_in after.orders order)

-- the notes of an accepted message
abbrev pub accepted_notes : movement.Message → Option KnownWagon → (after : Office) → List Note
accepted_notes message None after = []
accepted_notes message (Some known) after = promise_notes message known.promise known.filled after

-- ---- refusals

-- the note of a message that the status table refused: the number of the refusal, what was known of the wagon, and its streak
abbrev pub refused_notes : movement.Message → (number : ℕ) → Option KnownWagon → Streak → List Note
refused_notes message number None streak = []
refused_notes message number (Some known) streak =
    Refused (record { number = number; wagon = message.wagon; status = known.status; place = known.place; last = known.last; times = streak.times; since = streak.since }) ∷ []
