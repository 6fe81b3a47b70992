-- The faults of an event: when each comes.
use Rattle.std.specs.Prelude.{◌≡◌, ◌⊎◌, Result, Err, IsOk}
use Rattle.faults.specs.declared.faults.ApplyFault.{ApplyFault}
use Rattle.faults.specs.declared.faults.ApplyFault.TheVariants.{OutOfMemory}
use Rattle.move_messages.specs.declared.event.Event.{Event}
use Rattle.move_messages.specs.declared.event.Event.TheVariants.{Place}
use Rattle.operating_db.specs.Office.{Office}

-- why an event is refused: with the fault that the definitions give; or because memory is out, where they give none
abbrev pub IsRefusal : Result Office ApplyFault → ApplyFault → Type 0
IsRefusal after fault = (after ≡ Err fault) ⊎ ((fault ≡ OutOfMemory) × IsOk after)

-- the same of this event: memory is needed for a new order alone
abbrev pub IsRefusalOf : Event → Result Office ApplyFault → ApplyFault → Type 0
IsRefusalOf (Place text) after fault = IsRefusal after fault
IsRefusalOf event after fault = after ≡ Err fault

-- whether an event may be refused because memory is out: a new order
abbrev pub MayRunOutOfMemory : Event → Type 0
MayRunOutOfMemory (Place text) = Unit {0}
MayRunOutOfMemory event = ⊥
