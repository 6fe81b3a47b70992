-- What holds of every movement message that is accepted, whatever the status table says.
use Rattle.std.specs.Prelude.{◌≡◌, ◌⊎◌, ℕ, List, Option, None, IsSome}
use Rattle.move_messages.specs.declared.message.Message.{Message}
use Rattle.move_messages.specs.declared.message.MessageKind.TheVariants.{Release, Delivery}
use Rattle.wagons_and_orders.specs.declared.change.Effect.{Effect}
use Rattle.wagons_and_orders.specs.declared.change.Effect.TheVariants as effect
use Rattle.wagons_and_orders.specs.declared.status.Status.{Status}
use Rattle.wagons_and_orders.specs.declared.status.Status.TheVariants.{Empty}
use Rattle.wagons_and_orders.specs.declared.wagon_row.WagonRow.{WagonRow}
use Rattle.wagons_and_orders.specs.StatusTable.{place_of}

-- two rows of one wagon: its number, its class and its load limit are the same
pub record IsSameWagon (before after : WagonRow) : Type 0 where
  pub number : after.number ≡ before.number
  pub class : after.class ≡ before.class
  pub load_limit : after.load_limit ≡ before.load_limit

-- the status Empty
abbrev pub IsEmpty : Status → Type 0
IsEmpty (Empty place ready) = Unit {0}
IsEmpty status = ⊥

-- what empties a wagon: a release at its own place, or a delivery
abbrev pub IsEmptiedBy : Message → Status → Type 0
IsEmptiedBy message before =
    ((message.kind ≡ Release) × (message.place ≡ place_of before)) ⊎ (message.kind ≡ Delivery)

-- what becomes of a promise: it stays as it was, or there was one and it is gone
abbrev pub IsPromiseAfter : Effect → (before after : Option (List ℕ)) → Type 0
IsPromiseAfter effect.None before after = after ≡ before
IsPromiseAfter effect.Fills before after = IsSome before × (after ≡ None)
IsPromiseAfter effect.Ends before after = IsSome before × (after ≡ None)
