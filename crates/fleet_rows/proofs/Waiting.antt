-- The indexes of the rows that wait.
use Rattle.std.proofs.Common.{◌≡◌, ◌∙◌, ℕ, zero, suc, ◌+◌, ◌-◌, ◌<◌, ◌≤◌, Bool, true, false, cond, not, ◌&&◌, nat_eq, nat_lt, List, [], ◌∷◌, ◌++◌, length, get_or, count_by, refl, ap, sym, subst, arith}
use Rattle.std.specs.Prelude.{Option, Some, position}
use Rattle.std.specs.BTreeMap.{BTreeMap, get}
use Rattle.std.specs.Cmp.Lexicographic.{slice_cmp}
use Rattle.std.specs.List.{AllByRecursion, insert, slice_set}
use Rattle.std.specs.Ordering.{nat_cmp}
use Rattle.std.proofs.lemmas.Bool.Decides.{nat_tests}
use Rattle.std.proofs.lemmas.List.Sums.{sum_by-cons}
use Rattle.wagons_and_orders.specs.Lack.{is_waiting}
use Rattle.wagons_and_orders.specs.OrderRow.{IsOrderRow, OrderRowValue}
use Rattle.fleet_rows.specs.KeptOrders.{IsOrderRows}
use Rattle.fleet_rows.specs.Rows.{at_order, is_order, max_open_wagons, open_wagons, order_in, wanted_open}
use Rattle.fleet_rows.specs.WaitingOrders.{waiting_from}
use Rattle.fleet_rows.specs.inner.Indexed.{IsIndexed, IsStored, IsWaitingList, noted, without_index}
use Rattle.fleet_rows.proofs.Orders.{IsRowAt, changed_is, indexed_new, indexed_with, row_at, wanted_within}

abbrev AllFrom : ℕ → List ℕ → Type 0
AllFrom least indexes = AllByRecursion (λ index. least ≤ index) indexes

from_step : (least first : ℕ) (b : Bool) (rest : List ℕ) → least ≤ first → AllFrom least rest → AllFrom least (cond b (first ∷ rest) rest)
from_step least first true rest h later = (h, later)
from_step least first false rest h later = later

all_from : (least first : ℕ) (rows : List OrderRowValue) → least ≤ first → AllFrom least (waiting_from first rows)
all_from least first [] h = tt
all_from least first (row ∷ rows) h = from_step least first (is_waiting row) (waiting_from (first + 1) rows) h (all_from least (first + 1) rows (omega (arith, h)))

-- ---- where an index is noted

differs : (n m : ℕ) → n + 1 ≤ m → nat_eq m n ≡ false
differs n m h = grind (arith, nat_tests, h)

is_below : (n m : ℕ) → n < m → nat_lt n m ≡ true
is_below n m h = grind (arith, nat_tests, h)

not_below : (n m : ℕ) → n + 1 ≤ m → nat_lt m n ≡ false
not_below n m h = grind (arith, nat_tests, h)

same_index : (n : ℕ) → nat_eq n n ≡ true
same_index n = grind (arith, nat_tests)

kept_all : (index : ℕ) (indexes : List ℕ) → AllFrom (index + 1) indexes → without_index index indexes ≡ indexes
kept_all index [] h = refl
kept_all index (other ∷ indexes) h = rw (differs index other h.0, kept_all index indexes h.1) refl

none_below : (index : ℕ) (indexes : List ℕ) → AllFrom (index + 1) indexes → count_by (λ other. nat_lt other index) indexes ≡ 0
none_below index [] h = refl
none_below index (other ∷ indexes) h =
    sum_by-cons (λ (p : ℕ). cond (nat_lt p index) 1 0) other indexes ∙ rw (not_below index other h.0, none_below index indexes h.1) refl

noted_all : (index : ℕ) (waits : Bool) (indexes kept : List ℕ) → kept ≡ indexes → AllFrom (index + 1) indexes
    → cond waits (insert kept (count_by (λ other. nat_lt other index) kept) index) kept ≡ cond waits (index ∷ indexes) indexes
noted_all index true indexes kept same h = rw (same, none_below index indexes h) refl
noted_all index false indexes kept same h = same

gone_first : (index : ℕ) (b : Bool) (indexes : List ℕ) → AllFrom (index + 1) indexes → without_index index (cond b (index ∷ indexes) indexes) ≡ indexes
gone_first index true indexes h = rw (same_index index) (kept_all index indexes h)
gone_first index false indexes h = kept_all index indexes h

-- at the first index
noted_here : (index : ℕ) (waits b : Bool) (indexes : List ℕ) → AllFrom (index + 1) indexes → noted index waits (cond b (index ∷ indexes) indexes) ≡ cond waits (index ∷ indexes) indexes
noted_here index waits b indexes h = noted_all index waits indexes (without_index index (cond b (index ∷ indexes) indexes)) (gone_first index b indexes h) h

-- behind it
kept_first : (first index : ℕ) (indexes : List ℕ) → first < index → without_index index (first ∷ indexes) ≡ first ∷ without_index index indexes
kept_first first index indexes h = let apart : nat_eq first index ≡ false = grind (arith, nat_tests, h) in rw apart refl

one_more : (first index : ℕ) (indexes : List ℕ) → first < index → count_by (λ other. nat_lt other index) (first ∷ indexes) ≡ suc (count_by (λ other. nat_lt other index) indexes)
one_more first index indexes h = sum_by-cons (λ (p : ℕ). cond (nat_lt p index) 1 0) first indexes ∙ rw (is_below first index h) (omega arith)

insert_later : (first index : ℕ) (indexes all : List ℕ) (n : ℕ) → all ≡ first ∷ indexes → n ≡ suc (count_by (λ other. nat_lt other index) indexes) → insert all n index ≡ first ∷ insert indexes (count_by (λ other. nat_lt other index) indexes) index
insert_later first index indexes all n e f = rw (e, f) refl

noted_later : (first index : ℕ) (waits : Bool) (indexes : List ℕ) → first < index → noted index waits (first ∷ indexes) ≡ first ∷ noted index waits indexes
noted_later first index true indexes h =
    let front = kept_first first index indexes h in
    insert_later first index (without_index index indexes) (without_index index (first ∷ indexes)) _ front (ap (λ ps. count_by (λ other. nat_lt other index) ps) front ∙ one_more first index (without_index index indexes) h)
noted_later first index false indexes h = kept_first first index indexes h

noted_behind : (first index : ℕ) (waits b : Bool) (indexes : List ℕ) → first < index → noted index waits (cond b (first ∷ indexes) indexes) ≡ cond b (first ∷ noted index waits indexes) (noted index waits indexes)
noted_behind first index waits true indexes h = noted_later first index waits indexes h
noted_behind first index waits false indexes h = refl

-- ---- the rows after a change at an index, and one more row

waiting-set : (first index k : ℕ) (rows : List OrderRowValue) (new : OrderRowValue) → k < length rows → index ≡ first + k → waiting_from first (slice_set rows k new) ≡ noted index (is_waiting new) (waiting_from first rows)
waiting-set first index k [] new h e = absurd (omega (arith, h))
waiting-set first index zero (row ∷ rows) new h e =
    let same : index ≡ first = omega (arith, e) in
    rw same (sym (noted_here first (is_waiting new) (is_waiting row) (waiting_from (first + 1) rows) (all_from (first + 1) (first + 1) rows (omega arith))))
waiting-set first index (suc k) (row ∷ rows) new h e =
    let later = waiting-set (first + 1) index k rows new (omega (arith, h)) (omega (arith, e)) in
    rw later (sym (noted_behind first index (is_waiting new) (is_waiting row) (waiting_from (first + 1) rows) (omega (arith, e))))

waiting-push : (first index : ℕ) (rows : List OrderRowValue) (new : OrderRowValue) → index ≡ first + length rows → waiting_from first (rows ++ new ∷ []) ≡ noted index (is_waiting new) (waiting_from first rows)
waiting-push first index [] new e =
    let same : index ≡ first = omega (arith, e) in
    rw same (sym (noted_here first (is_waiting new) false [] tt))
waiting-push first index (row ∷ rows) new e =
    let later = waiting-push (first + 1) index rows new (omega (arith, e)) in
    rw later (sym (noted_behind first index (is_waiting new) (is_waiting row) (waiting_from (first + 1) rows) (omega (arith, e))))

-- ---- no more rows wait than open orders want wagons

wants_one : (withdrawn : Bool) (wagons promised filled : ℕ) → nat_lt 0 (cond withdrawn 0 (wagons - (promised + filled))) ≡ true → 1 ≤ cond (not withdrawn && nat_lt filled wagons) wagons 0
wants_one true wagons promised filled h = grind (arith, nat_tests, h)
wants_one false wagons promised filled h = grind (arith, nat_tests, h)

few_step : (first : ℕ) (b : Bool) (rest : List ℕ) (wants more : ℕ) → (b ≡ true → 1 ≤ wants) → length rest ≤ more → length (cond b (first ∷ rest) rest) ≤ wants + more
few_step first true rest wants more one h = let least : 1 ≤ wants = one refl in omega (arith, least, h)
few_step first false rest wants more one h = omega (arith, h)

few_wait : (first : ℕ) (rows : List OrderRowValue) → length (waiting_from first rows) ≤ open_wagons rows
few_wait first [] = omega arith
few_wait first (row ∷ rows) =
    let all : open_wagons (row ∷ rows) ≡ wanted_open row + open_wagons rows = sum_by-cons wanted_open row rows in
    let here = few_step first (is_waiting row) (waiting_from (first + 1) rows) (wanted_open row) (open_wagons rows) (wants_one row.withdrawn row.text.wagons (length row.promised) (length row.filled)) (few_wait (first + 1) rows) in
    subst (λ (n : ℕ). length (waiting_from first (row ∷ rows)) ≤ n) (sym all) here

-- there is room for one more index
room_left : (rows : List OrderRowValue) (waiting : List ℕ) (room : ℕ) → IsOrderRows rows → IsWaitingList rows waiting room → 0 < length rows → length waiting < room
room_left rows waiting room kept waits some =
    let few : length waiting ≤ open_wagons rows = subst (λ (ps : List ℕ). length ps ≤ open_wagons rows) (sym waits.indexes) (few_wait 0 rows) in
    let most : max_open_wagons < room = waits.room_for_all some in
    let open_ : open_wagons rows ≤ max_open_wagons = kept.few_open in
    omega (arith, few, most, open_)

pub room_at : (rows : List OrderRowValue) (index : List ℕ → Option ℕ) (n : ℕ) (waiting : List ℕ) (room k : ℕ) → IsStored rows index n waiting room → k < length rows → length waiting < room
room_at rows index n waiting room k h within = room_left rows waiting room h.rows_kept.kept h.waits (omega (arith, within))

-- ---- what is stored after a change

pub stored_new : (rows : List OrderRowValue) (indexes : BTreeMap (List ℕ) ℕ) (waiting : List ℕ) (room : ℕ) → rows ≡ [] → indexes.entries ≡ [] → waiting ≡ [] → IsStored rows (get (slice_cmp nat_cmp) indexes) 0 waiting room
stored_new rows indexes waiting room none empty nothing = record {
  rows_kept = indexed_new rows indexes none empty;
  waits = record {
    indexes = nothing ∙ ap (waiting_from 0) (sym none);
    room_for_all = λ some. let no_row : length rows ≡ 0 = ap length none in absurd (omega (arith, some, no_row));
  };
}

-- more room, whatever memory was refused
pub stored_room : (rows : List OrderRowValue) (index index' : List ℕ → Option ℕ) (n : ℕ) (waiting waiting' : List ℕ) (room room' : ℕ)
    → IsStored rows index n waiting room → ((q : List ℕ) → index' q ≡ index q) → waiting' ≡ waiting → room ≤ room' → IsStored rows index' n waiting' room'
stored_room rows index index' n waiting waiting' room room' h same_index same more = record {
  rows_kept = record { kept = h.rows_kept.kept; indexed = λ q. same_index q ∙ h.rows_kept.indexed q; counted = h.rows_kept.counted };
  waits = record {
    indexes = same ∙ h.waits.indexes;
    room_for_all = λ some. let most : max_open_wagons < room = h.waits.room_for_all some in omega (arith, most, more);
  };
}

-- another row of the same order
pub stored_with : {rows : List OrderRowValue} {index : List ℕ → Option ℕ} {n m : ℕ} {waiting waiting' : List ℕ} {room room' : ℕ} (id : List ℕ) (k : ℕ) (row new : OrderRowValue) {waits : Bool}
    → IsStored rows index n waiting room → IsRowAt rows id k row → new.text.id ≡ row.text.id → IsOrderRow new → m + wanted_open row ≡ n + wanted_open new → m ≤ n
    → waits ≡ is_waiting new → waiting' ≡ noted k waits waiting → room' ≡ room → IsStored (slice_set rows k new) index m waiting' room'
stored_with {rows = rows} {index = index} {n = n} {m = m} {waiting = waiting} {room = room} id k row new h at named valid count fewer is changed same = record {
  rows_kept = indexed_with rows index n m id k row new h.rows_kept at named valid count fewer;
  waits = record {
    indexes = changed ∙ ap (λ (b : Bool). noted k b waiting) is ∙ ap (noted k (is_waiting new)) h.waits.indexes ∙ sym (waiting-set 0 k k rows new at.within (omega arith));
    room_for_all = λ some. let within = at.within in let most : max_open_wagons < room = h.waits.room_for_all (omega (arith, within)) in omega (arith, most, same);
  };
}

-- the row of an order that was found by its name among the rows as a contract sees them, and read at its index
module _ {rows view : List OrderRowValue} {index : List ℕ → Option ℕ} {n : ℕ} {waiting : List ℕ} {room : ℕ} (id : List ℕ) {r : Option ℕ} {k : ℕ} {row : OrderRowValue}
    (h : IsStored rows index n waiting room) (same : rows ≡ view) (position_is : r ≡ position (is_order id) view) (is : r ≡ Some k) (read : row ≡ get_or rows k row) where
  found_row : IsRowAt rows id k row
  found_row = row_at rows id r k row h.rows_kept.kept (position_is ∙ ap (position (is_order id)) (sym same)) is read

  pub seen_row : order_in view id ≡ Some row
  seen_row = ap (λ rows. order_in rows id) (sym same) ∙ found_row.found

  pub wanted_there : wanted_open row ≤ n
  wanted_there = wanted_within rows index n id k row h.rows_kept found_row

  pub room_there : length waiting < room
  room_there = room_at rows index n waiting room k h found_row.within

  pub stored_there : {m : ℕ} {waiting' : List ℕ} {room' : ℕ} (new : OrderRowValue) {waits : Bool} → new.text.id ≡ row.text.id → (order_in view id ≡ Some row → IsOrderRow row → IsOrderRow new)
      → m + wanted_open row ≡ n + wanted_open new → m ≤ n → waits ≡ is_waiting new → waiting' ≡ noted k waits waiting → room' ≡ room → IsStored (slice_set rows k new) index m waiting' room'
  stored_there new named valid = stored_with id k row new h found_row named (valid seen_row found_row.valid)

  pub changed_there : (change : OrderRowValue → OrderRowValue) → slice_set rows k (change row) ≡ at_order id change view
  changed_there change = changed_is rows id k row change h.rows_kept.kept found_row ∙ ap (at_order id change) same

-- one more row
pub stored_push : (rows : List OrderRowValue) (index : List ℕ → Option ℕ) (n m : ℕ) (waiting waiting' : List ℕ) (room room' k : ℕ) (new : OrderRowValue) (waits : Bool)
    → IsStored rows index n waiting room → (index' : List ℕ → Option ℕ) → IsIndexed (rows ++ new ∷ []) index' m → waits ≡ is_waiting new → k ≡ length rows → waiting' ≡ noted k waits waiting → max_open_wagons < room'
    → IsStored (rows ++ new ∷ []) index' m waiting' room'
stored_push rows index n m waiting waiting' room room' k new waits h index' indexed is last changed enough = record {
  rows_kept = indexed;
  waits = record {
    indexes = changed ∙ ap (λ (b : Bool). noted k b waiting) is ∙ ap (noted k (is_waiting new)) h.waits.indexes ∙ sym (waiting-push 0 k rows new (omega (arith, last)));
    room_for_all = λ some. enough;
  };
}
