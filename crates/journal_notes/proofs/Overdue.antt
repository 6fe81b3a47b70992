-- The notes of the orders that a message makes overdue.
use Rattle.std.proofs.Common.{◌≡◌, ◌∙◌, ◌≤◌, ℕ, Bool, true, false, not, ◌&&◌, ◌||◌, true≢false, List, [], ◌∷◌, ◌++◌, refl, ap, ap₂, sym, arith}
use Rattle.std.specs.Prelude.{nat_le, nat_lt}
use Rattle.std.specs.List.{flat_map, list_all}
use Rattle.std.proofs.lemmas.Bool.Decides.{nat_tests}
use Rattle.std.proofs.lemmas.List.Concat.{flat_map-cons}
use Rattle.move_messages.specs.Order.{Order}
use Rattle.operating_db.specs.Office.{Office}
use Rattle.wagons_and_orders.specs.Lack.{is_open}
use Rattle.wagons_and_orders.specs.OrderRow.{OrderRowValue}
use Rattle.wagons_and_orders.specs.declared.wagon_row.WagonRow.{WagonRow}
use Rattle.journal_notes.specs.NoteLists.{noted}
use Rattle.journal_notes.specs.OrderNotes.{is_past}
use Rattle.journal_notes.specs.OverdueNotes.{overdue_note, overdue_notes, overdue_notes_of}
use Rattle.journal_notes.specs.Watches.{IsWatchOf, WatchValue, is_calm}
use Rattle.journal_notes.specs.declared.note.Note.{Note}
use Rattle.journal_notes.specs.inner.Passed.{passed_notes_of}

-- lists of notes that are none, or the same, row by row
none_of : (f : OrderRowValue → List Note) (row : OrderRowValue) (rows : List OrderRowValue) → f row ≡ [] → flat_map f rows ≡ [] → flat_map f (row ∷ rows) ≡ []
none_of f row rows here rest = flat_map-cons f row rows ∙ ap₂ (λ (a b : List Note). a ++ b) here rest

same_of : (f g : OrderRowValue → List Note) (row : OrderRowValue) (rows : List OrderRowValue) → f row ≡ g row → flat_map f rows ≡ flat_map g rows → flat_map f (row ∷ rows) ≡ flat_map g (row ∷ rows)
same_of f g row rows here rest = flat_map-cons f row rows ∙ ap₂ (λ (a b : List Note). a ++ b) here rest ∙ sym (flat_map-cons g row rows)

-- ---- the newest moment stays

never : (o lt : Bool) → ((o && lt) && not lt) ≡ false
never false lt = refl
never true true = refl
never true false = refl

pub none_passed : (n : ℕ) (rows : List OrderRowValue) → flat_map (passed_notes_of n n) rows ≡ []
none_passed n [] = refl
none_passed n (row ∷ rows) =
    none_of (passed_notes_of n n) row rows (ap (λ (b : Bool). noted b (overdue_note row)) (never (is_open row) (nat_lt row.text.latest n))) (none_passed n rows)

-- ---- it doesn't come past the bound

not_beyond : (latest bound until : ℕ) → until ≤ bound → nat_le bound latest ≡ true → nat_lt latest until ≡ false
not_beyond latest bound until within is = grind (arith, nat_tests)

calm_is_none : (o until from beyond : Bool) → (beyond ≡ true → until ≡ false) → (not o || (from || beyond)) ≡ true → ((o && until) && not from) ≡ false
calm_is_none false until from beyond h is = refl
calm_is_none true true true beyond h is = refl
calm_is_none true false true beyond h is = refl
calm_is_none true until false true h is = rw (h refl) refl
calm_is_none true until false false h is = absurd (true≢false (sym is))

first_of : (a b : Bool) → (a && b) ≡ true → (a ≡ true) × (b ≡ true)
first_of true b is = (refl, is)
first_of false b is = absurd (true≢false (sym is))

passed_calm : (from bound until : ℕ) → until ≤ bound → (rows : List OrderRowValue) → list_all (is_calm from bound) rows ≡ true → flat_map (passed_notes_of from until) rows ≡ []
passed_calm from bound until within [] calm = refl
passed_calm from bound until within (row ∷ rows) calm =
    let two = first_of (is_calm from bound row) (list_all (is_calm from bound) rows) calm in
    none_of (passed_notes_of from until) row rows
    (ap (λ (b : Bool). noted b (overdue_note row))
    (calm_is_none (is_open row) (nat_lt row.text.latest until) (nat_lt row.text.latest from) (nat_le bound row.text.latest) (not_beyond row.text.latest bound until within) two.0))
    (passed_calm from bound until within rows two.1)

-- ---- all of them

each_passed : (before after : List WagonRow) (from until : ℕ) → ((order : Order) → is_past before order ≡ nat_lt order.latest from) → ((order : Order) → is_past after order ≡ nat_lt order.latest until) → (rows : List OrderRowValue)
    → flat_map (overdue_notes_of before after) rows ≡ flat_map (passed_notes_of from until) rows
each_passed before after from until past then [] = refl
each_passed before after from until past then (row ∷ rows) =
    same_of (overdue_notes_of before after) (passed_notes_of from until) row rows
    (ap₂ (λ (then_past before_past : Bool). noted ((is_open row && then_past) && not before_past) (overdue_note row)) (then row.text) (past row.text))
    (each_passed before after from until past then rows)

pub overdue_passed : (before now : Office) (old new : WatchValue) → IsWatchOf before old → IsWatchOf now new → overdue_notes before now ≡ flat_map (passed_notes_of old.newest new.newest) now.orders
overdue_passed before now old new is is_now = each_passed before.wagons now.wagons old.newest new.newest is.newest is_now.newest now.orders

pub overdue_none : (before now : Office) (old new : WatchValue) → IsWatchOf before old → IsWatchOf now new → list_all (is_calm old.newest old.calm_until) now.orders ≡ true → new.newest ≤ old.calm_until → overdue_notes before now ≡ []
overdue_none before now old new is is_now calm within = overdue_passed before now old new is is_now ∙ passed_calm old.newest old.calm_until new.newest within now.orders calm
