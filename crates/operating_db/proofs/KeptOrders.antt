-- What the orders of an office keep of their promises, through each change.
use Rattle.std.proofs.Common.{◌≡◌, ◌∙◌, ℕ, ◌<◌, Bool, true, false, cond, List, [], ◌∷◌, ◌++◌, refl, ap, sym, subst}
use Rattle.std.specs.Prelude.{Option, Some, None, IfSome, All}
use Rattle.std.specs.List.{Contains, IsDistinct, slice_get, slice_index_or}
use Rattle.std.proofs.lemmas.List.{map-append}
use Rattle.std.proofs.lemmas.List.Elements.{All-append, All-cons, All-map, All-nil}
use Rattle.std.proofs.lemmas.Map.Keys.{IsDistinct-push}
use Rattle.std.proofs.lemmas.Option.{slice_get-get_or}
use Rattle.move_messages.specs.Order.{Order}
use Rattle.wagons_and_orders.specs.Lack.{lack_of}
use Rattle.wagons_and_orders.specs.OrderRow.{IsOrderRow, OrderRowValue, placed_row}
use Rattle.wagons_and_orders.proofs.Rows.{row_filled, row_placed, row_with, row_without, row_withdrawn}
use Rattle.wagons_and_orders.specs.declared.change.Effect.{Effect}
use Rattle.wagons_and_orders.specs.declared.change.Effect.TheVariants as effect
use Rattle.fleet_rows.specs.Rows.{names_of, at_order, filled_by, freed_of, order_in, promised_to, taken_back}
use Rattle.fleet_rows.proofs.Named.{nothing_named, same_name}
use Rattle.fleet_rows.proofs.Orders.{names-at_order, order_in-there}
use Rattle.fleet_rows.proofs.Wagons.{ascending_distinct}
use Rattle.operating_db.specs.After.{orders_after}
use Rattle.operating_db.specs.Commits.{Pair, promise_all, promise_pair}
use Rattle.operating_db.specs.inner.EventParts.{IsNext}
use Rattle.operating_db.specs.Office.{Office}
use Rattle.operating_db.specs.Promises.{KeepsPromises, PromisesAgree, SidesAgree}
use Rattle.operating_db.proofs.Commits.{AreNext, next_agree, next_lacks, next_new}
use Rattle.operating_db.proofs.Names.{same, same_is}

-- what the orders keep: no two have one name, and each keeps its promises
pub record AreKept (rows : List OrderRowValue) : Type 0 where
  pub names : IsDistinct same (names_of rows)
  pub orders : All KeepsPromises rows

pub kept_orders : (office : Office) → PromisesAgree office → AreKept office.orders
kept_orders office h = record { names = h.names; orders = h.orders }

pub both_agree : (office : Office) → SidesAgree office → AreKept office.orders → PromisesAgree office
both_agree office agree kept = record { agree = agree; names = kept.names; orders = kept.orders }

-- a row keeps its promises, since the promised wagons ascend
keeps_row : (row : OrderRowValue) → IsOrderRow row → KeepsPromises row
keeps_row row h = record { once = ascending_distinct row.promised h.ascending; valid = h }

pub none_kept : AreKept []
unfolding IsDistinct
none_kept = record { names = tt; orders = All-nil KeepsPromises }

-- ---- a change at one order

changed_row : (id : List ℕ) (f : OrderRowValue → OrderRowValue) (row : OrderRowValue) (here : Bool) → KeepsPromises row → (here ≡ true → KeepsPromises (f row)) → KeepsPromises (cond here (f row) row)
changed_row id f row true h g = g refl
changed_row id f row false h g = h

pub kept_at : (id : List ℕ) (f : OrderRowValue → OrderRowValue) (rows : List OrderRowValue) → ((row : OrderRowValue) → (f row).text.id ≡ row.text.id)
    → ((row : OrderRowValue) → order_in rows id ≡ Some row → IsOrderRow row → IsOrderRow (f row)) → AreKept rows → AreKept (at_order id f rows)
kept_at id f rows keeps valid h = record {
  names = subst (IsDistinct same) (sym (names-at_order id f (λ row e. keeps row ∙ e) rows)) h.names;
  orders = All-map KeepsPromises (λ row. cond (same id row.text.id) (f row) row) rows (λ k d below.
      let row = slice_index_or rows k d in
      let there : slice_get rows k ≡ Some row = slice_get-get_or rows k d below in
      changed_row id f row (same id row.text.id) (h.orders k d below) (λ here.
      let found : order_in rows id ≡ Some row = ap (order_in rows) (same_is id row.text.id here) ∙ order_in-there rows k row h.names there in
      keeps_row (f row) (valid row found (h.orders k d below).valid)));
}

-- ---- one more order

pub kept_push : (rows : List OrderRowValue) (text : Order) → order_in rows text.id ≡ None → AreKept rows → AreKept (rows ++ placed_row text ∷ [])
kept_push rows text new h = record {
  names = subst (IsDistinct same) (sym (map-append (λ (row : OrderRowValue). row.text.id) rows (placed_row text ∷ [])))
      (IsDistinct-push same_name (names_of rows) text.id h.names (nothing_named (λ (row : OrderRowValue). row.text.id) text.id rows new));
  orders = All-append KeepsPromises rows (placed_row text ∷ []) h.orders (All-cons KeepsPromises (placed_row text) [] (keeps_row (placed_row text) (row_placed text)) (All-nil KeepsPromises));
}

-- ---- promises that are made, kept, ended and withdrawn

at_row : (P : OrderRowValue → Type 0) (o : Option OrderRowValue) (row : OrderRowValue) → o ≡ Some row → IfSome o P → P row
at_row P o row e h = let at : IfSome (Some row) P = subst (λ (o : Option OrderRowValue). IfSome o P) e h in at

pub kept_next : (office : Office) (pair : Pair) → IsNext office pair → SidesAgree office → AreKept office.orders → AreKept (promise_pair office pair).orders
kept_next office pair next agree h =
    kept_at pair.1 (promised_to pair.0) office.orders (λ row. refl) (λ row found valid.
    row_with row pair.0 (at_row (λ row. 0 < lack_of row) (order_in office.orders pair.1) row found (next_lacks office pair next)) (at_row (λ row. ¬ Contains row.promised pair.0) (order_in office.orders pair.1) row found (next_new office pair next agree)) valid) h

pub kept_settled : (e : Effect) (promise : Option (List ℕ)) (number : List ℕ) (rows : List OrderRowValue)
    → ((id : List ℕ) → promise ≡ Some id → IfSome (order_in rows id) (λ row. Contains row.promised number)) → AreKept rows → AreKept (orders_after e promise number rows)
kept_settled effect.None promise number rows there h = h
kept_settled effect.Fills None number rows there h = h
kept_settled effect.Ends None number rows there h = h
kept_settled effect.Fills (Some id) number rows there h =
    kept_at id (filled_by number) rows (λ row. refl) (λ row found valid. row_filled row number (at_row (λ row. Contains row.promised number) (order_in rows id) row found (there id refl)) valid) h
kept_settled effect.Ends (Some id) number rows there h = kept_at id (freed_of number) rows (λ row. refl) (λ row found valid. row_without row number valid) h

pub kept_withdrawn : (id : List ℕ) (rows : List OrderRowValue) → AreKept rows → AreKept (at_order id taken_back rows)
kept_withdrawn id rows h = kept_at id taken_back rows (λ row. refl) (λ row found valid. row_withdrawn row valid) h

-- ---- a commit

pub next_keeps : (office : Office) (pair : Pair) → IsNext office pair → PromisesAgree office → PromisesAgree (promise_pair office pair)
next_keeps office pair next h =
    both_agree (promise_pair office pair) (next_agree office pair next h.agree) (kept_next office pair next h.agree (kept_orders office h))

pub all_agree : (office : Office) (pairs : List Pair) → AreNext office pairs → PromisesAgree office → PromisesAgree (promise_all office pairs)
all_agree office [] next agree = agree
all_agree office (p ∷ ps) next agree = all_agree (promise_pair office p) ps next.1 (next_keeps office p next.0 agree)
