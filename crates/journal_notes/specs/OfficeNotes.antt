-- What is noted of a commit and of a withdrawal, by the office before and the office after.
use Rattle.std.specs.Prelude.{ℕ, ◌==◌, List, ◌++◌, map}
use Rattle.std.specs.List.{filter, flat_map}
use Rattle.fleet_rows.specs.Rows.{names_of, order_in}
use Rattle.operating_db.specs.Commits.{Pair, lack_in}
use Rattle.operating_db.specs.Office.{Office}
use Rattle.operating_db.specs.Promises.{promised_of}
use Rattle.wagons_and_orders.specs.Lack.{is_waiting}
use Rattle.journal_notes.specs.NoteLists.{noted}
use Rattle.journal_notes.specs.declared.note.EndCause.TheVariants.{Withdrawn}
use Rattle.journal_notes.specs.declared.note.Note.{Note}
use Rattle.journal_notes.specs.declared.note.Note.TheVariants.{Complete, Ended, Promised}

-- ---- commits

-- a pair that is promised
abbrev pub promised_note : Pair → Note
promised_note pair = Promised (record { wagon = pair.0; order = pair.1 })

-- the names of the orders that lack a wagon, as placed
abbrev pub waiting_names : Office → List (List ℕ)
waiting_names office = names_of (filter is_waiting office.orders)

-- the note that an order lacks no wagon in an office, where it lacks none
abbrev pub complete_notes : Office → (order : List ℕ) → List Note
complete_notes office order = noted (lack_in (order_in office.orders order) == 0) (Complete (record { order = order }))

-- each pair is promised; then each order that waited before and lacks no wagon after is complete
abbrev pub commit_notes : (before after : Office) → List Pair → List Note
commit_notes before after pairs = map promised_note pairs ++ flat_map (complete_notes after) (waiting_names before)

-- ---- withdrawals

abbrev pub withdrawn_note : (order number : List ℕ) → Note
withdrawn_note order number = Ended (record { wagon = number; order = order; cause = Withdrawn })

-- the promise of each wagon that was promised to the order ends, ascending by number
abbrev pub withdrawal_notes : (before : Office) → (order : List ℕ) → List Note
withdrawal_notes before order = map (withdrawn_note order) (promised_of (order_in before.orders order))
