-- The office after one event more, and what a possible event is answered.
use Rattle.std.proofs.Common.{◌≡◌, ◌∙◌, ℕ, List, [], ◌∷◌, ◌++◌, Result, Ok, Err, ap, refl, inr}
use Rattle.std.specs.Prelude.{IsOk, OnErr}
use Rattle.std.specs.Result.{result_unwrap_or}
use Rattle.std.proofs.lemmas.List.Sums.{fold-append}
use Rattle.operating_db.specs.After.{after_call}
use Rattle.operating_db.specs.ApplyFault.{IsRefusal}
use Rattle.operating_db.specs.Office.{Office}
use Rattle.operating_db.specs.Steps.{IsPossible}
use Rattle.faults.specs.declared.faults.ApplyFault.{ApplyFault}
use Rattle.faults.specs.declared.faults.ApplyFault.TheVariants.{OutOfMemory}
use Rattle.move_messages.specs.declared.event.Event.{Event}
use Rattle.move_messages.specs.declared.event.Event.TheVariants.{Message, Place, Withdraw, Commit, Revise}
use Rattle.commit_book.specs.History.{after, after_all}

pub after_push : (networks : ℕ) (office : Office) (events : List Event) (event : Event) → after_all networks office (events ++ event ∷ []) ≡ after networks (after_all networks office events) event
after_push networks office events event = fold-append (after networks) office events (event ∷ [])

pub after_possible : (networks : ℕ) (office : Office) (events : List Event) (event : Event) (new : Office) → after_call networks (after_all networks office events) event ≡ Ok new → after_all networks office (events ++ event ∷ []) ≡ new
after_possible networks office events event new h = after_push networks office events event ∙ ap (λ r. result_unwrap_or r (after_all networks office events)) h

-- ---- a possible event

pub possible_answered : (networks : ℕ) (office : Office) (event : Event) → IsPossible networks office event → IsOk (after_call networks office event)
unfolding after_call
possible_answered networks office (Message message) possible = possible
possible_answered networks office (Place text) possible = possible
possible_answered networks office (Withdraw id) possible = possible
possible_answered networks office (Commit commit) possible = refl
possible_answered networks office (Revise network) possible = possible

-- it is refused only because memory is out
pub possible_wants : (networks : ℕ) (office : Office) (event : Event) → IsPossible networks office event → IsRefusal (after_call networks office event) OutOfMemory
possible_wants networks office event possible = inr (refl, possible_answered networks office event possible)

not_err : (P : Type 0) (answer : Result Office ApplyFault) → IsOk answer → OnErr answer P
not_err P (Ok office) ok = tt
not_err P (Err fault) ok = absurd cc

pub possible_not_refused : (P : Type 0) (networks : ℕ) (office : Office) (event : Event) → IsPossible networks office event → OnErr (after_call networks office event) P
possible_not_refused P networks office event possible = not_err P (after_call networks office event) (possible_answered networks office event possible)
