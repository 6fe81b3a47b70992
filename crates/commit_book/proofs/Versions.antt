-- The promises agree in every version of a legal history.
use Rattle.std.proofs.Common.{◌≡◌, ℕ, zero, suc, List, [], ◌∷◌, ◌++◌, length, take, refl, sym, ap, subst, append-nil}
use Rattle.std.specs.Prelude.{Option, Some, None, option_to_list, Result, Ok, Err, slice_get}
use Rattle.std.specs.Result.{result_unwrap_or}
use Rattle.std.proofs.lemmas.List.Sums.{fold-append}
use Rattle.operating_db.specs.After.{after_call}
use Rattle.operating_db.specs.Office.{Office}
use Rattle.operating_db.specs.FirstOffice.{IsFirstOffice}
use Rattle.operating_db.specs.Promises.{PromisesAgree}
use Rattle.operating_db.specs.Steps.{IsPossible}
use Rattle.faults.specs.declared.faults.ApplyFault.{ApplyFault}
use Rattle.move_messages.specs.declared.event.Event.{Event}
use Rattle.operating_db.proofs.Events.{step_kept}
use Rattle.commit_book.specs.History.{IsLegal, after, replay, version}
use Rattle.commit_book.specs.Setting.{Setting}

replay-push : (setting : Setting) (entries : List Event) (event : Event) → replay setting (entries ++ event ∷ []) ≡ after (length setting.networks) (replay setting entries) event
replay-push setting entries event = fold-append (after (length setting.networks)) setting.first entries (event ∷ [])

after_agrees : (networks : ℕ) (office : Office) (event : Event) (r : Result Office ApplyFault) → after_call networks office event ≡ r → IsPossible networks office event → PromisesAgree office → PromisesAgree (result_unwrap_or r office)
after_agrees networks office event (Ok new) is possible agree = (step_kept networks office event new (possible, is) agree).promises
after_agrees networks office event (Err fault) is possible agree = agree

pub take_next : (events : List Event) (n : ℕ) (o : Option Event) → slice_get events n ≡ o → take (suc n) events ≡ take n events ++ option_to_list o
take_next [] zero None is = refl
take_next [] (suc n) None is = refl
take_next [] n (Some event) is = absurd cc
take_next (first ∷ events) zero o is = ap (λ (e : Option Event). option_to_list e) is
take_next (first ∷ events) (suc n) o is = ap (λ (rest : List Event). first ∷ rest) (take_next events n o is)

next_agrees : (setting : Setting) (history : List Event) → IsLegal setting history → (n : ℕ) (o : Option Event) → slice_get history n ≡ o → PromisesAgree (version setting history n) → PromisesAgree (replay setting (take n history ++ option_to_list o))
next_agrees setting history legal n None is agree = subst (λ (entries : List Event). PromisesAgree (replay setting entries)) (sym (append-nil (take n history))) agree
next_agrees setting history legal n (Some event) is agree =
    let now = version setting history n in
    subst PromisesAgree (sym (replay-push setting (take n history) event))
    (after_agrees (length setting.networks) now event (after_call (length setting.networks) now event) refl (legal.entries n event is).possible agree)

pub versions_agree : (setting : Setting) → IsFirstOffice (length setting.networks) setting.first → (history : List Event) → IsLegal setting history → (n : ℕ) → PromisesAgree (version setting history n)
versions_agree setting first history legal zero = first.promises
versions_agree setting first history legal (suc n) =
    subst (λ (entries : List Event). PromisesAgree (replay setting entries)) (sym (take_next history n (slice_get history n) refl))
    (next_agrees setting history legal n (slice_get history n) refl (versions_agree setting first history legal n))
