-- When an event is possible, by what it is answered.
use Rattle.std.proofs.Common.{◌≡◌, ℕ, Result, Ok, refl}
use Rattle.std.specs.Prelude.{IsOk}
use Rattle.faults.specs.declared.faults.ApplyFault.{ApplyFault}
use Rattle.move_messages.specs.declared.event.Event.{Event}
use Rattle.move_messages.specs.declared.event.Event.TheVariants.{Message, Place, Withdraw, Commit, Revise}
use Rattle.operating_db.specs.After.{after_call}
use Rattle.operating_db.specs.Office.{Office}
use Rattle.operating_db.specs.Steps.{IsPossible, IsPromised}

-- an event that is answered, and that can be promised where it is a commit
pub possible_by : (networks : ℕ) (office : Office) (event : Event) → IsPromised office event → IsOk (after_call networks office event) → IsPossible networks office event
possible_by networks office (Message message) can ok = ok
possible_by networks office (Place text) can ok = ok
possible_by networks office (Withdraw id) can ok = ok
possible_by networks office (Commit commit) can ok = can
possible_by networks office (Revise network) can ok = ok

pub answered_ok : (r : Result Office ApplyFault) (new : Office) → r ≡ Ok new → IsOk r
answered_ok r new h = rw h refl

-- what a possible event has
pub promised_by : (networks : ℕ) (office : Office) (event : Event) → IsPossible networks office event → IsPromised office event
promised_by networks office (Message message) possible = tt
promised_by networks office (Place text) possible = tt
promised_by networks office (Withdraw id) possible = tt
promised_by networks office (Commit commit) possible = possible
promised_by networks office (Revise network) possible = tt
