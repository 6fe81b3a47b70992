-- An event, as an entry keeps it.
use Rattle.move_messages.specs.declared.event.Event.{Event}
use Rattle.move_messages.specs.declared.event.Event.TheVariants.{Message}
use Rattle.commit_book.specs.declared.entry.KeptEvent.{KeptEvent}
use Rattle.commit_book.specs.declared.entry.KeptEvent.TheVariants as kept

abbrev pub event_of : KeptEvent → Event
event_of (kept.Message message) = Message message
event_of (kept.Other event) = event.value
