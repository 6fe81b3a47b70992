-- The offices of a legal history: which wagons they have, and that no two orders have one name.
use Rattle.std.proofs.Common.{◌≡◌, ◌∙◌, ℕ, zero, suc, List, ◌++◌, ◌≤◌, length, map, take, drop, refl, sym, ap, subst, append-nil}
use Rattle.std.specs.Prelude.{nat_eq, Bool, Option, Some, None, option_to_list, Result, Ok, Err, slice_get}
use Rattle.std.specs.Cmp.Lexicographic.{pointwise}
use Rattle.std.specs.List.{IsDistinct}
use Rattle.std.specs.Result.{result_unwrap_or}
use Rattle.std.proofs.lemmas.List.{take-append-drop, take-append-le}
use Rattle.std.proofs.Math.Seq.{take-length}
use Rattle.wagons_and_orders.specs.declared.free_wagon.FreeWagon.{FreeWagon}
use Rattle.wagons_and_orders.specs.declared.wagon_row.WagonRow.{WagonRow}
use Rattle.wagons_and_orders.specs.Free.{free_of}
use Rattle.wagons_and_orders.specs.Lack.{is_waiting}
use Rattle.wagons_and_orders.specs.OrderRow.{OrderRowValue}
use Rattle.wagons_and_orders.specs.Wanted.{WantedOrder}
use Rattle.cost_table.specs.DistinctNames.{first_repeated}
use Rattle.cost_table.specs.Problem.{ProblemValue, order_names, wagon_names}
use Rattle.operating_db.specs.FirstOffice.{IsFirstOffice}
use Rattle.fleet_rows.proofs.Wagons.{numbers_distinct}
use Rattle.operating_db.specs.After.{after_call}
use Rattle.operating_db.specs.Office.{Office}
use Rattle.operating_db.specs.Laws.{numbers_of}
use Rattle.operating_db.specs.Promises.{PromisesAgree}
use Rattle.operating_db.specs.Problem.{free_wagons, problem_of, waiting_orders, wanted_in}
use Rattle.operating_db.specs.Steps.{IsPossible}
use Rattle.faults.specs.declared.faults.ApplyFault.{ApplyFault}
use Rattle.move_messages.specs.declared.event.Event.{Event}
use Rattle.operating_db.proofs.Events.{step_kept}
use Rattle.operating_db.proofs.Problems.{free_keeps, once, picked_distinct, wanted_name}
use Rattle.commit_book.specs.History.{IsLegal, replay, version}
use Rattle.commit_book.specs.Setting.{Setting}
use Rattle.commit_book.proofs.Replays.{after_push}
use Rattle.commit_book.proofs.Versions.{take_next, versions_agree}

-- an event keeps the numbers of the wagons
after_numbers : (networks : ℕ) (office : Office) (event : Event) (r : Result Office ApplyFault) → after_call networks office event ≡ r → IsPossible networks office event → PromisesAgree office → numbers_of (result_unwrap_or r office) ≡ numbers_of office
after_numbers networks office event (Ok new) is possible agree = (step_kept networks office event new (possible, is) agree).wagons
after_numbers networks office event (Err fault) is possible agree = refl

next_numbers : (setting : Setting) (history : List Event) → IsFirstOffice (length setting.networks) setting.first → IsLegal setting history → (n : ℕ) (o : Option Event) → slice_get history n ≡ o → numbers_of (replay setting (take n history ++ option_to_list o)) ≡ numbers_of (version setting history n)
next_numbers setting history first legal n None is = ap (λ (entries : List Event). numbers_of (replay setting entries)) (append-nil (take n history))
next_numbers setting history first legal n (Some event) is =
    let now = version setting history n in
    let pushed = after_push (length setting.networks) setting.first (take n history) event in
    ap numbers_of pushed ∙ after_numbers (length setting.networks) now event (after_call (length setting.networks) now event) refl (legal.entries n event is).possible (versions_agree setting first history legal n)

-- each version has the wagons of the first office
numbers_kept : (setting : Setting) (history : List Event) → IsFirstOffice (length setting.networks) setting.first → IsLegal setting history → (n : ℕ) → numbers_of (version setting history n) ≡ numbers_of setting.first
numbers_kept setting history first legal zero = refl
numbers_kept setting history first legal (suc n) =
    ap (λ (entries : List Event). numbers_of (replay setting entries)) (take_next history n (slice_get history n) refl)
    ∙ (next_numbers setting history first legal n (slice_get history n) refl ∙ numbers_kept setting history first legal n)

abbrev pub same : List ℕ → List ℕ → Bool
same a b = pointwise nat_eq a b

-- no number and no name stands twice
pub record IsNamedOnce (office : Office) : Type 0 where
  pub wagons : IsDistinct same (numbers_of office)
  pub orders : IsDistinct same (map (λ row. row.text.id) office.orders)

-- so it is in each version
pub version_named : (setting : Setting) (history : List Event) → IsFirstOffice (length setting.networks) setting.first → IsLegal setting history → (n : ℕ) → IsNamedOnce (version setting history n)
version_named setting history first legal n = record {
  wagons = subst (λ (ns : List (List ℕ)). IsDistinct same ns) (sym (numbers_kept setting history first legal n)) (numbers_distinct setting.first.wagons first.wagons.ascending);
  orders = (versions_agree setting first history legal n).names;
}

pub named_once : (setting : Setting) (history : List Event) → IsFirstOffice (length setting.networks) setting.first → IsLegal setting history → IsNamedOnce (replay setting history)
named_once setting history first legal = subst IsNamedOnce (ap (replay setting) (take-length history)) (version_named setting history first legal (length history))

-- a version that the first entries of a history have is one of the history
pub version_before : (setting : Setting) (history : List Event) (n k : ℕ) → k ≤ length (take n history) → version setting (take n history) k ≡ version setting history k
version_before setting history n k le =
    ap (replay setting) (sym (take-append-le k (take n history) (drop n history) le)) ∙ ap (λ (entries : List Event). version setting entries k) (take-append-drop n history)

-- ---- the problem of such an office

pub free_distinct : (office : Office) → IsNamedOnce office → IsDistinct same (map (λ (w : FreeWagon). w.number) (free_wagons office.wagons))
free_distinct office once = picked_distinct (λ (r : WagonRow). r.number) (λ (w : FreeWagon). w.number) free_of free_keeps office.wagons once.wagons

pub wanted_distinct : (office : Office) → IsNamedOnce office → IsDistinct same (map (λ (o : WantedOrder). o.order.id) (waiting_orders office.orders))
wanted_distinct office named =
    picked_distinct (λ (r : OrderRowValue). r.text.id) (λ (o : WantedOrder). o.order.id) wanted_in (λ row wanted h. wanted_name (is_waiting row) row wanted h) office.orders named.orders

-- none of its names stands twice
pub record IsNamedOnceIn (problem : ProblemValue) : Type 0 where
  pub wagons : first_repeated (wagon_names problem.wagons) ≡ None
  pub orders : first_repeated (order_names problem.orders) ≡ None

pub problem_named : (office : Office) (at : ℕ) → IsNamedOnce office → IsNamedOnceIn (problem_of office at)
problem_named office at named = record {
  wagons = once (wagon_names (free_wagons office.wagons)) (free_distinct office named);
  orders = once (order_names (waiting_orders office.orders)) (wanted_distinct office named);
}
