-- Events that are lent.
use Rattle.move_messages.specs.declared.event.Event.{Event}
use Rattle.move_messages.specs.declared.event.Event.TheVariants as event
use Rattle.commit_book.specs.declared.event_view.EventView.{EventView}
use Rattle.commit_book.specs.declared.event_view.EventView.TheVariants as view

-- the event that is lent
abbrev pub lent_event : EventView → Event
lent_event (view.Message message) = event.Message message.now
lent_event (view.Place text) = event.Place text.now
lent_event (view.Withdraw id) = event.Withdraw id.now
lent_event (view.Commit commit) = event.Commit commit.now
lent_event (view.Revise network) = event.Revise network.now
