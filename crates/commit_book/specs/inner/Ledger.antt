-- The accepted events, as a book keeps them.
use Rattle.std.specs.Prelude.{◌≡◌, ◌&&◌, ◌++◌, ◌∷◌, [], ℕ, Bool, false, nat_eq, IsOk, List, Option, Some, None, Result, Ok, Err, position, slice_get}
use Rattle.std.specs.Cmp.Lexicographic.{pointwise, slice_cmp}
use Rattle.std.specs.Ordering.{nat_cmp, ordering_then}
use Rattle.std.specs.declared.cmp.Ordering.{Ordering}
use Rattle.std.specs.declared.alloc.AllocError.{AllocError}
use Rattle.rail_codes.specs.declared.message_id.MessageId.{MessageId}
use Rattle.move_messages.specs.declared.message.Message as movement
use Rattle.operating_db.specs.After.{after_call}
use Rattle.operating_db.specs.ApplyFault.{IsRefusal}
use Rattle.operating_db.specs.Office.{Office}
use Rattle.operating_db.specs.State.{StateValue}
use Rattle.faults.specs.declared.faults.ApplyFault.{ApplyFault}
use Rattle.move_messages.specs.declared.event.Event.{Event}
use Rattle.move_messages.specs.declared.event.Event.TheVariants.{Message, Place, Withdraw, Commit, Revise}
use Rattle.commit_book.specs.History.{IsFresh, after_all}
use Rattle.commit_book.specs.declared.ledger.MessageEntry.{MessageEntry}
use Rattle.commit_book.specs.declared.ledger.MessageEntry.TheVariants.{Entered, Known}

-- the office that it began with, how many networks there are, and the events since
pub record LedgerValue : Type 0 where
  pub first : Office
  pub networks : ℕ
  pub events : List Event

-- the office after all events
abbrev pub office_of : LedgerValue → Office
office_of ledger = after_all ledger.networks ledger.first ledger.events

abbrev pub state_of : LedgerValue → StateValue
state_of ledger = record { office = office_of ledger; networks = ledger.networks }

-- message ids in order: by company, then by number
abbrev pub compare_ids : MessageId → MessageId → Ordering
compare_ids a b = ordering_then (slice_cmp nat_cmp a.company b.company) (nat_cmp a.number b.number)

-- whether an event is a message of this id
abbrev pub is_id : MessageId → MessageId → Bool
is_id a b = pointwise nat_eq a.company b.company && nat_eq a.number b.number

abbrev pub is_message_of : MessageId → Event → Bool
is_message_of id (Message message) = is_id id message.id
is_message_of id (Place text) = false
is_message_of id (Withdraw other) = false
is_message_of id (Commit commit) = false
is_message_of id (Revise network) = false

-- a map of ids finds the index of each message among the events by its id
abbrev pub IsIndexOf : List Event → (ids : MessageId → Option ℕ) → Type 0
IsIndexOf events ids = (id : MessageId) → ids id ≡ position (is_message_of id) events

-- the event at an index is a message of this id
pub record IsMessageAt (events : List Event) (id : MessageId) (index : ℕ) : Type 0 where
  pub message : movement.Message
  pub there : slice_get events index ≡ Some (Message message)
  pub its_id : message.id ≡ id

-- an event that is no message
abbrev pub IsNoMessage : Event → Type 0
IsNoMessage (Message message) = ⊥
IsNoMessage (Place text) = Unit {0}
IsNoMessage (Withdraw id) = Unit {0}
IsNoMessage (Commit commit) = Unit {0}
IsNoMessage (Revise network) = Unit {0}

-- the map of ids has the messages, and the state is the office after all events
pub record IsLedger (first : StateValue) (events : List Event) (ids : MessageId → Option ℕ) (state : StateValue) : Type 0 where
  pub indexed : IsIndexOf events ids
  pub counted : first.networks ≡ state.networks
  pub replayed : state.office ≡ after_all state.networks first.office events

-- ---- a message that is entered

-- the office after a message, or why it is refused
abbrev pub message_after : StateValue → movement.Message → Result Office ApplyFault
message_after state message = after_call state.networks state.office (Message message)

-- the map of ids has a message of this id behind the events
pub record HasNoted (events : List Event) (id : MessageId) (ids : MessageId → Option ℕ) : Type 0 where
  pub fresh : IsFresh id events
  pub behind : (message : movement.Message) → message.id ≡ id → IsIndexOf (events ++ Message message ∷ []) ids

-- what came of noting an id: it is noted behind the events; or an event is a message of it, or memory is out, and the
-- index is that of the events
abbrev pub IsNoted : List Event → MessageId → Result (Option ℕ) AllocError → (ids : MessageId → Option ℕ) → Type 0
IsNoted events id (Ok None) ids = HasNoted events id ids
IsNoted events id (Ok (Some index)) ids = IsMessageAt events id index × IsIndexOf events ids
IsNoted events id (Err error) ids = IsFresh id events × IsIndexOf events ids

-- what came of entering a message: it is the last event; or an event is a message of its id; or it is refused
abbrev pub IsMessageEntry : (old : LedgerValue) → movement.Message → Result MessageEntry ApplyFault → (new : LedgerValue) → Type 0
IsMessageEntry old message (Ok Entered) new =
    IsFresh message.id old.events × IsOk (after_call old.networks (office_of old) (Message message)) × (new ≡ record old { events = old.events ++ Message message ∷ [] })
IsMessageEntry old message (Ok (Known index)) new = IsMessageAt old.events message.id index × (new ≡ old)
IsMessageEntry old message (Err fault) new =
    IsFresh message.id old.events × IsRefusal (after_call old.networks (office_of old) (Message message)) fault × (new ≡ old)
