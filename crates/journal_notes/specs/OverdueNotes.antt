-- What is noted of orders that become overdue.
use Rattle.std.specs.Prelude.{Bool, ◌&&◌, not, List, length}
use Rattle.std.specs.List.{flat_map}
use Rattle.operating_db.specs.Office.{Office}
use Rattle.wagons_and_orders.specs.Lack.{is_open, lack_of}
use Rattle.wagons_and_orders.specs.OrderRow.{OrderRowValue}
use Rattle.wagons_and_orders.specs.declared.wagon_row.WagonRow.{WagonRow}
use Rattle.journal_notes.specs.NoteLists.{noted}
use Rattle.journal_notes.specs.OrderNotes.{is_past}
use Rattle.journal_notes.specs.declared.note.Note.{Note}
use Rattle.journal_notes.specs.declared.note.Note.TheVariants.{Overdue}

-- whether an order is open, and its latest moment lies before that of some wagon's last message
abbrev pub is_overdue : List WagonRow → OrderRowValue → Bool
is_overdue wagons row = is_open row && is_past wagons row.text

abbrev pub overdue_note : OrderRowValue → Note
overdue_note row = Overdue (record { order = row.text.id; latest = row.text.latest; missing = lack_of row; promised = length row.promised })

-- the note of an order that is overdue by the wagons after a message, and whose latest moment wasn't past by those before it
abbrev pub overdue_notes_of : (before after : List WagonRow) → OrderRowValue → List Note
overdue_notes_of before after row = noted (is_overdue after row && not (is_past before row.text)) (overdue_note row)

-- The notes of the orders that become overdue by a message, as placed. A message opens no order, so each was open before.
abbrev pub overdue_notes : (before after : Office) → List Note
overdue_notes before after = flat_map (overdue_notes_of before.wagons after.wagons) after.orders
