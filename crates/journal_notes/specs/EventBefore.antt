-- What the notes of an event need of the office before it.
use Rattle.std.specs.Prelude.{◌≡◌, IfOk, List}
use Rattle.line_network.specs.Network.{NetworkValue}
use Rattle.move_messages.specs.declared.event.Event.{Event}
use Rattle.move_messages.specs.declared.event.Event.TheVariants as event
use Rattle.operating_db.specs.Office.{Office}
use Rattle.journal_notes.specs.MessageNotes.{known_in}
use Rattle.journal_notes.specs.OfficeNotes.{waiting_names, withdrawal_notes}
use Rattle.journal_notes.specs.OrderNotes.{order_notes}
use Rattle.journal_notes.specs.declared.event_before.EventBefore.{EventBefore}

-- Of a message, what the office knows of its wagon; of an order and of a withdrawal, their notes; of a commit, the orders that
-- wait. Where memory was refused, nothing is said.
abbrev pub IsBefore : List NetworkValue → Office → Event → EventBefore → Type 0
IsBefore networks office (event.Message message) before = before.known ≡ known_in office message.wagon
IsBefore networks office (event.Place order) before = IfOk before.said (λ notes. notes.items ≡ order_notes networks office.wagons order)
IsBefore networks office (event.Withdraw id) before = IfOk before.said (λ notes. notes.items ≡ withdrawal_notes office id)
IsBefore networks office (event.Commit commit) before = IfOk before.waiting (λ names. names.items ≡ waiting_names office)
IsBefore networks office (event.Revise network) before = Unit {0}
